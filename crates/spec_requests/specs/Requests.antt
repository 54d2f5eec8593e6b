-- What words ask for, or why they are no valid command line.
use Rattle.std.specs.Prelude.{List, [], ◌∷◌, ◌++◌, Option, None, Some, Result, Ok, Err, if◌then◌else◌, find, codes, unwrap_or, option_and_then, pos}
use Rattle.clap.specs.Simple.{App}
use Rattle.spec_text.specs.declared.decimals.Decimal.{Decimal}
use Rattle.spec_ephemeris.specs.declared.body.Body.{Body}
use Rattle.spec_ephemeris.specs.declared.body.Body.TheVariants.{Ssb}
use Rattle.spec_bodies.specs.declared.frame.Frame.TheVariants.{Eq}
use Rattle.spec_events.specs.declared.dir.Dir.TheVariants as dir
use Rattle.spec_trees.specs.declared.cuts.CutRule.TheVariants.{Half}
use Rattle.spec_kinds.specs.declared.ask.Ask.{Ask}
use Rattle.spec_kinds.specs.declared.kind.Kind.{Kind}
use Rattle.spec_kinds.specs.declared.table.Use.{Use}
use Rattle.spec_kinds.specs.declared.table.Use.TheVariants.{Needed, Optional}
use Rattle.spec_kinds.specs.Table.{row_of, is_unused, takes_radii}
use Rattle.spec_scalars.specs.declared.plan.Plan.{Plan}
use Rattle.spec_scalars.specs.Quads.{Quadratic}
use Rattle.spec_requests.specs.declared.request.FindAsk.{FindAsk}
use Rattle.spec_requests.specs.declared.request.ScalarAsk.{ScalarAsk}
use Rattle.spec_requests.specs.declared.request.Relation.TheVariants.{Less}
use Rattle.spec_requests.specs.declared.request.Request.{Request}
use Rattle.spec_requests.specs.declared.request.Request.TheVariants.{Find, Cert, Verify, Check, Gen, Set, Scalar}
use Rattle.spec_requests.specs.declared.request.Named.{Named}
use Rattle.spec_requests.specs.declared.request.Named.TheVariants as opt
use Rattle.spec_requests.specs.declared.request.WordFault.{WordFault}
use Rattle.spec_requests.specs.declared.request.WordFault.TheVariants.{NoCommand, UnknownCommand, Words, BadValue}
use Rattle.spec_requests.specs.declared.tables.CommandName.{CommandName}
use Rattle.spec_requests.specs.declared.tables.CommandName.TheVariants as command
use Rattle.spec_requests.specs.declared.limits.TheConstants.{DEFAULT_TICK, DEFAULT_WIDTH, DEFAULT_DEPTH, DEFAULT_WORKERS}
use Rattle.spec_requests.specs.declared.tables.TheConstants.{GEN_WORDS, GEN_OPTIONS}
use Rattle.spec_requests.specs.Names.{Text, command_of, kind_of, target_of, observer_of, frame_of, axis_of, dir_of, cut_of}
use Rattle.spec_requests.specs.Options.{Values, name_of, is_bad, bad_option, tick_in, decimal_of, instant_of, width_of, depth_of, workers_of, blocks_of, seed_of, quad_of, scalar_time_of, set_kind_of, relation_in, bad_in_set, bad_in_scalar}
use Rattle.spec_requests.specs.Commands.{command_rules, is_refused, values_in, files_in}

-- ---- searches

-- what the option's value stands for, or this where the option is left out
abbrev pub value_or : {X : Type 0} → (Text → Option X) → X → Option Text → X
value_or form default given = unwrap_or (option_and_then form given) default

abbrev pub nought : Decimal
nought = record { mant = pos 0; exp = pos 0 }

-- the first number of an event: its radius where the kind has radii, else its reference
abbrev pub first_number : Kind → Named
first_number kind = if takes_radii kind then opt.Radius1 else opt.Ref

-- the event that is asked for, of this kind and target
unfoldable pub ask_of : Values → Kind → Body → Ask
ask_of values kind target = record {
  kind = kind;
  target = target;
  second = option_and_then target_of (values opt.Second);
  observer = value_or observer_of Ssb (values opt.Observer);
  frame = value_or frame_of Eq (values opt.Frame);
  axis = value_or axis_of 0 (values opt.Axis);
  value1 = value_or decimal_of nought (values (first_number kind));
  value2 = value_or decimal_of nought (values opt.Radius2);
  dir = value_or dir_of dir.Any (values opt.Dir);
}

-- the numbers of the event as they are given
unfoldable pub values_text : Values → Kind → Text
values_text values kind =
    if takes_radii kind then unwrap_or (values opt.Radius1) [] ++ (codes "," ++ unwrap_or (values opt.Radius2) [])
    else if is_unused (row_of kind).reference then codes "-"
    else unwrap_or (values opt.Ref) (codes "0")

-- the search that is asked for
unfoldable pub search_of : Values → Kind → Body → List Text → FindAsk
search_of values kind target files = record {
  ask = ask_of values kind target;
  values = values_text values kind;
  tick = tick_in values;
  from = option_and_then (instant_of (tick_in values)) (values opt.From);
  to = option_and_then (instant_of (tick_in values)) (values opt.To);
  width = pos (value_or width_of DEFAULT_WIDTH (values opt.Width));
  depth = value_or depth_of DEFAULT_DEPTH (values opt.Depth);
  workers = value_or workers_of DEFAULT_WORKERS (values opt.Workers);
  cut = value_or cut_of Half (values opt.Cut);
  files = files;
}

-- the search, or the first option that is bad
abbrev pub checked_search : Values → Kind → Body → List Text → Option Named → Result FindAsk WordFault
checked_search values kind target files None = Ok (search_of values kind target files)
checked_search values kind target files (Some option) = Err (BadValue option)

-- a search needs a kind and a target, the first two of its options; its kind finds the first that is bad
abbrev pub search_of_target : (Kind → Option Named) → Values → List Text → Kind → Option Body → Result FindAsk WordFault
search_of_target bad values files kind None = Err (BadValue opt.Target)
search_of_target bad values files kind (Some target) = checked_search values kind target files (bad kind)

abbrev pub search_of_kind : (Kind → Option Named) → Values → List Text → Option Kind → Result FindAsk WordFault
search_of_kind bad values files None = Err (BadValue opt.Kind)
search_of_kind bad values files (Some kind) = search_of_target bad values files kind (option_and_then target_of (values opt.Target))

unfoldable pub search_by : Values → List Text → Result FindAsk WordFault
search_by values files = search_of_kind (bad_option values) values files (option_and_then kind_of (values opt.Kind))

-- ---- sets

-- the search about the first reference, of a kind that has sets
unfoldable pub set_search_by : Values → List Text → Result FindAsk WordFault
set_search_by values files = search_of_kind (bad_in_set values) values files (option_and_then set_kind_of (values opt.Kind))

-- the second reference as it is given, behind a comma
abbrev pub ref2_text : Option Text → Text
ref2_text None = []
ref2_text (Some word) = codes "," ++ word

-- a set is made of all turns, and both references are printed
unfoldable pub search_of_set : Values → FindAsk → FindAsk
search_of_set values find = record find {
  ask = record find.ask { dir = dir.Any };
  values = find.values ++ ref2_text (values opt.Ref2);
}

unfoldable pub set_of : Values → FindAsk → Request
set_of values find =
    Set (search_of_set values find) (option_and_then decimal_of (values opt.Ref2)) (unwrap_or (relation_in values) Less)

-- ---- scalars

abbrev pub nought_quad : Quadratic
nought_quad = record { p = pos 0; q = pos 0; r = pos 0 }

abbrev pub quad_in : Values → Quadratic
quad_in values = value_or quad_of nought_quad (values opt.Quad)

-- how a scalar is searched
unfoldable pub plan_of : Values → Plan
plan_of values = record {
  dir = value_or dir_of dir.Any (values opt.Dir);
  width = value_or width_of DEFAULT_WIDTH (values opt.Width);
  depth = value_or depth_of DEFAULT_DEPTH (values opt.Depth);
  cut = value_or cut_of Half (values opt.Cut);
}

unfoldable pub scalar_of : Values → ScalarAsk
scalar_of values = record {
  p = (quad_in values).p;
  q = (quad_in values).q;
  r = (quad_in values).r;
  text = unwrap_or (values opt.Quad) [];
  from = value_or scalar_time_of (pos 0) (values opt.From);
  to = value_or scalar_time_of (pos 0) (values opt.To);
  plan = plan_of values;
  workers = value_or workers_of DEFAULT_WORKERS (values opt.Workers);
}

abbrev pub checked_scalar : Values → Option Named → Result Request WordFault
checked_scalar values None = Ok (Scalar (scalar_of values))
checked_scalar values (Some option) = Err (BadValue option)

unfoldable pub scalar_by : Values → Result Request WordFault
scalar_by values = checked_scalar values (bad_in_scalar values)

-- ---- generated texts

-- how `gen` uses a word or an option
abbrev pub use_in_text : Named → Use
use_in_text opt.Workers = Optional
use_in_text _ = Needed

-- the first word or option of `gen` that is bad
unfoldable pub bad_word : Values → Option Named
bad_word values = find (λ option. is_bad DEFAULT_TICK option (use_in_text option) (values option)) (GEN_WORDS ++ GEN_OPTIONS)

unfoldable pub text_of : Values → Request
text_of values = Gen (value_or blocks_of 1 (values opt.Blocks)) (value_or seed_of 0 (values opt.Seed))
    (value_or workers_of DEFAULT_WORKERS (values opt.Workers))

abbrev pub checked_text : Values → Option Named → Result Request WordFault
checked_text values None = Ok (text_of values)
checked_text values (Some option) = Err (BadValue option)

unfoldable pub text_by : Values → Result Request WordFault
text_by values = checked_text values (bad_word values)

-- ---- requests

-- what is asked of a search, where there is one
abbrev pub of_search : (FindAsk → Result Request WordFault) → Result FindAsk WordFault → Result Request WordFault
of_search request (Ok find) = request find
of_search request (Err fault) = Err fault

-- a search and its certificate, which has to be named: the last option of `verify`
abbrev pub verify_of : Option Text → FindAsk → Result Request WordFault
verify_of None find = Err (BadValue opt.Cert)
verify_of (Some cert) find = Ok (Verify find cert)

-- what a command is asked for by the values of its options and by its files
abbrev pub request_by : CommandName → Values → List Text → Result Request WordFault
request_by command.Find values files = of_search (λ find. Ok (Find find)) (search_by values files)
request_by command.Cert values files = of_search (λ find. Ok (Cert find)) (search_by values files)
request_by command.Verify values files = of_search (verify_of (option_and_then name_of (values opt.Cert))) (search_by values files)
request_by command.Check values files = Ok (Check files)
request_by command.Gen values files = text_by values
request_by command.Set values files = of_search (λ find. Ok (set_of values find)) (set_search_by values files)
request_by command.Scalar values files = scalar_by values

-- what words ask for by the rules of a command
abbrev pub request_in : App → CommandName → List Text → Result Request WordFault
request_in rules name words =
    if is_refused rules words then Err Words else request_by name (values_in rules words) (files_in rules words)

-- what the words ask for, of which the first names this command
abbrev pub request_for : Option CommandName → List Text → Result Request WordFault
request_for None words = Err UnknownCommand
request_for (Some name) words = request_in (command_rules name) name words

-- what the words ask for, or why they are no valid command line
unfoldable pub request_of : List Text → Result Request WordFault
request_of [] = Err NoCommand
request_of (word ∷ words) = request_for (command_of word) (word ∷ words)
