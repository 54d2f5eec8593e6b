-- What words ask for keeps to the limits.
use Rattle.std.proofs.Common.{◌≡◌, ◌≢◌, ◌∙◌, ◌<◌, ◌≤◌, ◌&&◌, ◌||◌, ◌++◌, ℕ, Bool, true, false, not, zero, suc, List, [], ◌∷◌, length, get_or, Option, Some, None, Result, Ok, Err, IfOk, IfSome, is_some, cond, find, nat_lt, nat_le, option_and_then, option_map, unwrap_or, ◌==◌, ℤ, pos, neg_ℤ, unsigned_abs, IsSome, refl, sym, ap, subst, arith, lit<, lit≤, true≢false}
use Rattle.std.specs.Str.{bytes_eq}
use Rattle.std.specs.List.{list_all}
use Rattle.std.specs.Str.Parse.{digits_value}
use Rattle.std.specs.Prelude.{codes}
use Rattle.std.specs.Result.{result_ok}
use Rattle.std.proofs.lemmas.List.{length-append}
use Rattle.std.proofs.lemmas.Bool.{leb-true, ltb-true}
use Rattle.std.proofs.lemmas.Int.{ints}
use Rattle.clap.proofs.WalkLemmas.{both}
use Rattle.spec_text.specs.Bytes.{minus_sign}
use Rattle.spec_text.specs.declared.decimals.Decimal.{Decimal}
use Rattle.spec_text.specs.declared.decimals.NumberFault.{NumberFault}
use Rattle.spec_text.specs.Printed.{IsPlain}
use Rattle.spec_text.specs.Reading.{reading}
use Rattle.spec_text.proofs.Plain.{decimal_plain}
use Rattle.spec_text.proofs.Printed.{from_append}
use Rattle.spec_ephemeris.specs.declared.body.Body.{Body}
use Rattle.spec_ephemeris.specs.declared.body.Body.TheVariants.{Ssb}
use Rattle.spec_ephemeris.specs.declared.limits.TheConstants.{MAX_TICK}
use Rattle.spec_ephemeris.specs.Ticks.{IsTick}
use Rattle.spec_events.specs.declared.dir.Dir.{Dir}
use Rattle.spec_events.specs.declared.dir.Dir.TheVariants as dir
use Rattle.spec_scalars.specs.Quads.{IsSmall, Quadratic, is_small, small_quadratic}
use Rattle.spec_scalars.specs.declared.limits.TheConstants.{MAX_FACTOR, MAX_SUMMAND}
use Rattle.spec_kinds.specs.Asks.{IsAsk}
use Rattle.spec_kinds.specs.Table.{is_unused, row_of, takes_radii, takes_second}
use Rattle.spec_kinds.specs.declared.kind.Kind.{Kind}
use Rattle.spec_kinds.specs.declared.kind.Kind.TheVariants as kind
use Rattle.spec_kinds.specs.declared.table.Use.{Use}
use Rattle.spec_kinds.specs.declared.table.Use.TheVariants.{Needed, Unused}
use Rattle.spec_requests.specs.declared.request.FindAsk.{FindAsk}
use Rattle.spec_requests.specs.declared.request.Request.{Request}
use Rattle.spec_requests.specs.declared.request.Named.{Named}
use Rattle.spec_requests.specs.declared.request.Named.TheVariants as opt
use Rattle.spec_requests.specs.declared.request.Relation.{Relation}
use Rattle.spec_requests.specs.declared.request.Relation.TheVariants as relation
use Rattle.spec_requests.specs.declared.request.WordFault.{WordFault}
use Rattle.spec_requests.specs.declared.request.WordFault.TheVariants.{Words}
use Rattle.spec_requests.specs.declared.tables.CommandName.{CommandName}
use Rattle.spec_requests.specs.declared.tables.CommandName.TheVariants as command
use Rattle.spec_requests.specs.declared.tables.TheConstants.{FIND_OPTIONS, SET_OPTIONS}
use Rattle.spec_requests.specs.declared.limits.TheConstants.{DEFAULT_TICK, DEFAULT_WIDTH, DEFAULT_DEPTH, DEFAULT_WORKERS, MAX_DIGITS_OF_A_COUNT, MAX_DIGITS_OF_BLOCKS, MAX_GENERATED_BLOCKS, MAX_WIDTH, MAX_DEPTH, MAX_WORKERS, MAX_DIGITS_OF_A_TIME, MAX_SCALAR_TIME}
use Rattle.spec_requests.specs.Names.{Table, Text, as_target, axis_of, axes, command_of, kind_of, named, observer_of, target_of, tick_of_word, ticks}
use Rattle.spec_requests.specs.Options.{Values, are_digits, at_comma, bad_in_scalar, bad_in_set, bad_option, blocks_of, decimal_of, depth_of, factor_of, has_sets, is_bad, is_bad_in_set, is_misread, name_of, number_of, passing, quad_of, quad_of_numbers, quad_of_parts, quad_of_two, relation_in, scalar_time_of, set_kind_of, signed_of, tick_in, use_of, use_of_ref2, width_of, workers_of}
use Rattle.spec_requests.specs.Commands.{command_rules, files_in, is_refused, values_in}
use Rattle.spec_requests.specs.Requests.{ask_of, bad_word, checked_scalar, checked_search, checked_text, nought_quad, of_search, plan_of, quad_in, ref2_text, request_by, request_for, request_of, scalar_by, scalar_of, search_by, search_of, search_of_kind, search_of_set, search_of_target, set_of, set_search_by, text_by, text_of, value_or, values_text, verify_of}
use Rattle.spec_requests.specs.Limits.{ArePlain, HasReferences, IsScalarWithinLimits, IsWithinLimits, KeepsToLimits}

-- ---- values of tables and numbers

-- what a word names passes a test that all values of the table pass
all_named : {X : Type 0} (p : X → Bool) (rows : Table X) (word : Text) → list_all (λ row. p row.1) rows ≡ true
    → IfSome (named rows word) (λ x. p x ≡ true)
all_named p [] word all = tt
all_named p (row ∷ rows) word all =
    let parts = both (p row.1) (list_all (λ r. p r.1) rows) all in
    first (bytes_eq row.0 word) parts.0 (all_named p rows word parts.1)
  where
    first : (b : Bool) → p row.1 ≡ true → IfSome (named rows word) (λ x. p x ≡ true)
        → IfSome (cond b (Some row.1) (named rows word)) (λ x. p x ≡ true)
    first true here rest = here
    first false here rest = rest

-- a value, or a default, passes a test that both pass
passes_or : {X : Type 0} (p : X → Bool) (default : X) (form : Text → Option X) (given : Option Text)
    → ((word : Text) → IfSome (form word) (λ x. p x ≡ true)) → p default ≡ true → p (value_or form default given) ≡ true
passes_or {X = X} p default form None all here = here
passes_or {X = X} p default form (Some word) all here = one (form word) (all word)
  where
    one : (found : Option X) → IfSome found (λ x. p x ≡ true) → p (unwrap_or found default) ≡ true
    one None rest = here
    one (Some x) rest = rest

-- the same of a value that may be left out
passes_if : {X : Type 0} (p : X → Bool) (form : Text → Option X) (given : Option Text)
    → ((word : Text) → IfSome (form word) (λ x. p x ≡ true)) → IfSome (option_and_then form given) (λ x. p x ≡ true)
passes_if p form None all = tt
passes_if p form (Some word) all = all word

abbrev is_target : Body → Bool
is_target Ssb = false
is_target _ = true

not_ssb : (body : Body) → is_target body ≡ true → body ≢ Ssb
not_ssb body target same = true≢false (sym target ∙ ap is_target same)

none_ssb : (found : Option Body) → IfSome found (λ body. is_target body ≡ true) → IfSome found (λ body. body ≢ Ssb)
none_ssb None all = tt
none_ssb (Some body) all = not_ssb body all

targets_only : (found : Option Body) → IfSome (as_target found) (λ body. is_target body ≡ true)
targets_only None = tt
targets_only (Some Ssb) = tt
targets_only (Some _) = refl

targets_are : (word : Text) → IfSome (target_of word) (λ body. is_target body ≡ true)
targets_are word = targets_only (observer_of word)

abbrev is_axis : ℕ → Bool
is_axis axis = nat_lt axis 3

axes_are : (word : Text) → IfSome (axis_of word) (λ axis. is_axis axis ≡ true)
unfolding axis_of
axes_are word = all_named is_axis axes word refl

abbrev lies_in : ℕ → ℕ → ℕ → Bool
lies_in least most n = nat_le least n && nat_le n most

numbers_are : (digits least most : ℕ) (word : Text) → IfSome (number_of digits least most word) (λ n. lies_in least most n ≡ true)
unfolding number_of
numbers_are digits least most word = one (are_digits digits word) (lies_in least most (digits_value 10 word)) refl
  where
    one : (b within : Bool) → lies_in least most (digits_value 10 word) ≡ within
        → IfSome (cond (b && within) (Some (digits_value 10 word)) None) (λ n. lies_in least most n ≡ true)
    one false within is = tt
    one true false is = tt
    one true true is = is

ticks_are : (word : Text) → IfSome (tick_of_word word) (λ tick. lies_in 1 MAX_TICK tick ≡ true)
unfolding tick_of_word
ticks_are word = all_named (lies_in 1 MAX_TICK) ticks word refl

-- ---- options

parts : (b : Bool) (rest : Option Named) (x : Named) → cond b (Some x) rest ≡ None → (b ≡ false) × (rest ≡ None)
parts true rest x none = absurd (cc)
parts false rest x none = (refl, none)

-- where none passes, each fails
each_fails : (p : Named → Bool) (xs : List Named) (i : ℕ) (d : Named) → find p xs ≡ None → i < length xs
    → p (get_or xs i d) ≡ false
each_fails p [] i d none below = absurd (omega arith)
each_fails p (x ∷ xs) zero d none below = (parts (p x) (find p xs) x none).0
each_fails p (x ∷ xs) (suc i) d none below = each_fails p xs i d (parts (p x) (find p xs) x none).1 (omega arith)

not_false : (b : Bool) → not b ≡ false → b ≡ true
not_false true e = refl
not_false false e = absurd (true≢false e)

second_is : (takes : Bool) (given : Option Text) → is_misread target_of (cond takes Needed Unused) given ≡ false
    → is_some (option_and_then target_of given) ≡ takes
second_is true None good = absurd (true≢false good)
second_is true (Some word) good = not_false (is_some (target_of word)) good
second_is false None good = refl
second_is false (Some word) good = absurd (true≢false good)

second_use : (kind : Kind) → (row_of kind).second ≡ cond (takes_second kind) Needed Unused
second_use kind.Coord = refl
second_use _ = refl

-- a second body that is not bad is there exactly where the kind takes one
good_second : (values : Values) (kind : Kind) → is_misread target_of (row_of kind).second (values opt.Second) ≡ false
    → is_some (option_and_then target_of (values opt.Second)) ≡ takes_second kind
good_second values kind good =
    second_is (takes_second kind) (values opt.Second)
    (ap (λ usage. is_misread target_of usage (values opt.Second)) (sym (second_use kind)) ∙ good)

ask_is : (values : Values) (kind : Kind) (target : Body) (turns : Dir) → is_target target ≡ true
    → is_misread target_of (row_of kind).second (values opt.Second) ≡ false
    → IsAsk (record (ask_of values kind target) { dir = turns })
unfolding ask_of
ask_is values kind target turns body good = record {
  second = good_second values kind good;
  target = not_ssb target body;
  other = none_ssb _ (passes_if is_target target_of (values opt.Second) targets_are);
  axis = ltb-true _ _ (passes_or is_axis 0 axis_of (values opt.Axis) axes_are refl);
}

-- ---- the numbers of an event as they are given

-- where it is not misread, a decimal is plain
is_plain_by : (read : Result Decimal NumberFault) (word : Text) → reading word ≡ read → is_some (result_ok read) ≡ true
    → IsPlain word
is_plain_by (Ok d) word e some = decimal_plain word d e
is_plain_by (Err fault) word e some = absurd (true≢false (sym some))

is_plain_word : (word : Text) → is_some (decimal_of word) ≡ true → IsPlain word
unfolding decimal_of
is_plain_word word some = is_plain_by (reading word) word refl some

read_well : (unused some : Bool) → (unused || not some) ≡ false → some ≡ true
read_well true some good = absurd (true≢false good)
read_well false some good = not_false some good

some_is : {X : Type 0} (found : Option X) → not (is_some found) ≡ false → IsSome found
some_is None good = absurd (true≢false good)
some_is (Some x) good = refl

plain_or : (usage : Use) (default : Text) (given : Option Text) → IsPlain default → is_misread decimal_of usage given ≡ false
    → IsPlain (unwrap_or given default)
plain_or usage default None plain good = plain
plain_or usage default (Some word) plain good = is_plain_word word (read_well (is_unused usage) (is_some (decimal_of word)) good)

plain_values : (radii unused : Bool) (one two ref : Text) → IsPlain one → IsPlain two → IsPlain ref
    → ArePlain (cond radii (one ++ (44 ∷ two)) (cond unused (45 ∷ []) ref))
plain_values true unused one two ref one_is two_is ref_is = record {
  bytes = from_append 33 one (44 ∷ two) one_is.bytes (lit≤ tt, two_is.bytes);
  short = omega (arith, length-append one (44 ∷ two), one_is.short, two_is.short);
}
plain_values false true one two ref one_is two_is ref_is = record { bytes = (lit≤ tt, tt); short = lit≤ tt }
plain_values false false one two ref one_is two_is ref_is = record { bytes = ref_is.bytes; short = omega (arith, ref_is.short) }

no_word : IsPlain []
no_word = record { bytes = tt; short = lit≤ tt }

nought_word : IsPlain (codes "0")
nought_word = record { bytes = (lit≤ tt, tt); short = lit≤ tt }

values_are : (values : Values) (kind : Kind) → bad_option values kind ≡ None → ArePlain (values_text values kind)
unfolding values_text bad_option
values_are values kind none =
    let good : (i : ℕ) → i < length FIND_OPTIONS → _ = λ i below.
    each_fails (λ option. is_bad (tick_in values) option (use_of option kind) (values option)) FIND_OPTIONS i opt.Kind none below in
    let radii = (row_of kind).radii in
    plain_values (takes_radii kind) (is_unused (row_of kind).reference)
    (unwrap_or (values opt.Radius1) []) (unwrap_or (values opt.Radius2) []) (unwrap_or (values opt.Ref) (codes "0"))
    (plain_or radii [] (values opt.Radius1) no_word (good 7 (lit< tt)))
    (plain_or radii [] (values opt.Radius2) no_word (good 8 (lit< tt)))
    (plain_or (row_of kind).reference (codes "0") (values opt.Ref) nought_word (good 6 (lit< tt)))

-- ---- the numbers of a set

plain_first : (radii unused : Bool) (two ref : Text) → radii ≡ false → IsPlain ref
    → IsPlain (cond radii two (cond unused (45 ∷ []) ref))
plain_first true unused two ref single is = absurd (true≢false single)
plain_first false true two ref single is = record { bytes = (lit≤ tt, tt); short = lit≤ tt }
plain_first false false two ref single is = is

plain_both : (first : Text) (second : Option Text) → IsPlain first → IfSome second IsPlain → ArePlain (first ++ ref2_text second)
plain_both first None one two = record {
  bytes = from_append 33 first [] one.bytes tt;
  short = omega (arith, length-append first [], one.short);
}
plain_both first (Some word) one two = record {
  bytes = from_append 33 first (44 ∷ word) one.bytes (lit≤ tt, two.bytes);
  short = omega (arith, length-append first (44 ∷ word), one.short, two.short);
}

plain_if : (usage : Use) (given : Option Text) → is_misread decimal_of usage given ≡ false → IfSome given IsPlain
plain_if usage None good = tt
plain_if usage (Some word) good = is_plain_word word (read_well (is_unused usage) (is_some (decimal_of word)) good)

no_radii : (kind : Kind) → has_sets kind ≡ true → takes_radii kind ≡ false
no_radii kind.Coord sets = refl
no_radii kind.Radius sets = refl
no_radii kind.Apsis sets = refl
no_radii kind.Station sets = refl
no_radii kind.Sep sets = refl
no_radii kind.SepExt sets = refl
no_radii _ sets = absurd (true≢false (sym sets))

-- an option of a set that is not bad
good_in_set : (values : Values) (kind : Kind) → bad_in_set values kind ≡ None → (i : ℕ) → i < length SET_OPTIONS
    → is_bad_in_set values kind (get_or SET_OPTIONS i opt.Kind) ≡ false
unfolding bad_in_set
good_in_set values kind none i below = each_fails (is_bad_in_set values kind) SET_OPTIONS i opt.Kind none below

set_values_are : (values : Values) (kind : Kind) → has_sets kind ≡ true → bad_in_set values kind ≡ None
    → ArePlain (values_text values kind ++ ref2_text (values opt.Ref2))
unfolding values_text
set_values_are values kind sets none =
    let ref = plain_or (row_of kind).reference (codes "0") (values opt.Ref) nought_word (good_in_set values kind none 6 (lit< tt)) in
    plain_both (values_text values kind) (values opt.Ref2)
    (plain_first (takes_radii kind) (is_unused (row_of kind).reference) _ (unwrap_or (values opt.Ref) (codes "0"))
    (no_radii kind sets) ref)
    (plain_if (use_of_ref2 (relation_in values)) (values opt.Ref2) (good_in_set values kind none 10 (lit< tt)))

references_are : (found : Option Relation) (given : Option Text) → is_misread decimal_of (use_of_ref2 found) given ≡ false
    → HasReferences (unwrap_or found relation.Less) (option_and_then decimal_of given)
references_are None None good = refl
references_are None (Some word) good = absurd (true≢false good)
references_are (Some relation.Less) None good = refl
references_are (Some relation.Less) (Some word) good = absurd (true≢false good)
references_are (Some relation.AtLeast) None good = refl
references_are (Some relation.AtLeast) (Some word) good = absurd (true≢false good)
references_are (Some relation.Within) None good = absurd (true≢false good)
references_are (Some relation.Within) (Some word) good = some_is (decimal_of word) good
references_are (Some relation.Outside) None good = absurd (true≢false good)
references_are (Some relation.Outside) (Some word) good = some_is (decimal_of word) good

-- ---- the limits of a search

lies_low : (least most n : ℕ) → lies_in least most n ≡ true → least ≤ n
lies_low least most n within = leb-true least n (both (nat_le least n) (nat_le n most) within).0

lies_high : (least most n : ℕ) → lies_in least most n ≡ true → n ≤ most
lies_high least most n within = leb-true n most (both (nat_le least n) (nat_le n most) within).1

pub tick_is : (values : Values) → IsTick (tick_in values)
tick_is values =
    let tick = passes_or (lies_in 1 MAX_TICK) DEFAULT_TICK tick_of_word (values opt.Tick) ticks_are refl in
    record { some = lies_low 1 MAX_TICK (tick_in values) tick; few = lies_high 1 MAX_TICK (tick_in values) tick }

width_is : (values : Values)
    → (1 ≤ value_or width_of DEFAULT_WIDTH (values opt.Width)) × (value_or width_of DEFAULT_WIDTH (values opt.Width) ≤ MAX_WIDTH)
width_is values =
    let width = passes_or (lies_in 1 MAX_WIDTH) DEFAULT_WIDTH width_of (values opt.Width)
    (numbers_are MAX_DIGITS_OF_A_COUNT 1 MAX_WIDTH) refl in
    (lies_low 1 MAX_WIDTH _ width, lies_high 1 MAX_WIDTH _ width)

depth_is : (values : Values) → value_or depth_of DEFAULT_DEPTH (values opt.Depth) ≤ MAX_DEPTH
depth_is values =
    lies_high 0 MAX_DEPTH (value_or depth_of DEFAULT_DEPTH (values opt.Depth))
    (passes_or (lies_in 0 MAX_DEPTH) DEFAULT_DEPTH depth_of (values opt.Depth) (numbers_are MAX_DIGITS_OF_A_COUNT 0 MAX_DEPTH) refl)

workers_are : (values : Values)
    → (1 ≤ value_or workers_of DEFAULT_WORKERS (values opt.Workers))
    × (value_or workers_of DEFAULT_WORKERS (values opt.Workers) ≤ MAX_WORKERS)
workers_are values =
    let workers = passes_or (lies_in 1 MAX_WORKERS) DEFAULT_WORKERS workers_of (values opt.Workers)
    (numbers_are MAX_DIGITS_OF_A_COUNT 1 MAX_WORKERS) refl in
    (lies_low 1 MAX_WORKERS _ workers, lies_high 1 MAX_WORKERS _ workers)

search_is : (values : Values) (kind : Kind) (target : Body) (files : List Text) (turns : Dir) (text : Text)
    → is_target target ≡ true → is_misread target_of (row_of kind).second (values opt.Second) ≡ false → ArePlain text
    → IsWithinLimits (record (search_of values kind target files) {
      ask = record (ask_of values kind target) { dir = turns };
      values = text;
    })
unfolding search_of
search_is values kind target files turns text body second plain =
    let width = width_is values in
    record {
      ask = ask_is values kind target turns body second;
      values = plain;
      tick = tick_is values;
      some_width = omega (arith, ints, width.0);
      width = omega (arith, ints, width.1);
      depth = depth_is values;
      some_workers = (workers_are values).0;
      workers = (workers_are values).1;
    }

-- ---- from options to a request

of_options : (P : FindAsk → Type 0) (values : Values) (kind : Kind) (target : Body) (files : List Text) (bad : Option Named)
    → (bad ≡ None → P (search_of values kind target files)) → IfOk (checked_search values kind target files bad) P
of_options P values kind target files (Some option) all = tt
of_options P values kind target files None all = all refl

of_target : (P : FindAsk → Type 0) (bad : Kind → Option Named) (values : Values) (files : List Text) (kind : Kind)
    (found : Option Body) → IfSome found (λ body. is_target body ≡ true)
    → ((target : Body) → is_target target ≡ true → bad kind ≡ None → P (search_of values kind target files))
    → IfOk (search_of_target bad values files kind found) P
of_target P bad values files kind None body all = tt
of_target P bad values files kind (Some target) body all = of_options P values kind target files (bad kind) (all target body)

of_kind : (P : FindAsk → Type 0) (passes : Kind → Bool) (bad : Kind → Option Named) (values : Values) (files : List Text)
    (found : Option Kind) → IfSome found (λ kind. passes kind ≡ true)
    → ((kind : Kind) (target : Body) → passes kind ≡ true → is_target target ≡ true → bad kind ≡ None
    → P (search_of values kind target files))
    → IfOk (search_of_kind bad values files found) P
of_kind P passes bad values files None passed all = tt
of_kind P passes bad values files (Some kind) passed all =
    of_target P bad values files kind (option_and_then target_of (values opt.Target))
    (passes_if is_target target_of (values opt.Target) targets_are) (λ target. all kind target passed)

each_passes : {X : Type 0} (found : Option X) → IfSome found (λ x. true ≡ true)
each_passes None = tt
each_passes (Some x) = refl

find_is : (values : Values) (kind : Kind) (target : Body) (files : List Text) → is_target target ≡ true
    → bad_option values kind ≡ None → IsWithinLimits (search_of values kind target files)
unfolding search_of bad_option
find_is values kind target files body none =
    let good = each_fails (λ option. is_bad (tick_in values) option (use_of option kind) (values option)) FIND_OPTIONS 2 opt.Kind
    none (lit< tt) in
    search_is values kind target files (ask_of values kind target).dir (values_text values kind) body good
    (values_are values kind none)

search_keeps : (values : Values) (files : List Text) → IfOk (search_by values files) IsWithinLimits
unfolding search_by
search_keeps values files =
    of_kind IsWithinLimits (λ kind. true) (bad_option values) values files (option_and_then kind_of (values opt.Kind))
    (each_passes (option_and_then kind_of (values opt.Kind))) (λ kind target passed. find_is values kind target files)

of_searches : (P : FindAsk → Type 0) (request : FindAsk → Result Request WordFault) (found : Result FindAsk WordFault)
    → ((find : FindAsk) → P find → IfOk (request find) KeepsToLimits) → IfOk found P
    → IfOk (of_search request found) KeepsToLimits
of_searches P request (Ok find) all is = all find is
of_searches P request (Err fault) all is = tt

-- what is made where no option is bad
of_checked : (checked : Option Named → Result Request WordFault)
    → ((option : Named) → IfOk (checked (Some option)) KeepsToLimits) → IfOk (checked None) KeepsToLimits
    → (bad : Option Named) → IfOk (checked bad) KeepsToLimits
of_checked checked refused made (Some option) = refused option
of_checked checked refused made None = made

verify_keeps : (cert : Option Text) (find : FindAsk) → IsWithinLimits find → IfOk (verify_of cert find) KeepsToLimits
verify_keeps None find is = tt
verify_keeps (Some cert) find is = is

text_is : (values : Values) → KeepsToLimits (text_of values)
unfolding text_of
text_is values =
    let blocks = passes_or (lies_in 1 MAX_GENERATED_BLOCKS) 1 blocks_of (values opt.Blocks)
    (numbers_are MAX_DIGITS_OF_BLOCKS 1 MAX_GENERATED_BLOCKS) refl in
    record {
      some_blocks = lies_low 1 MAX_GENERATED_BLOCKS (value_or blocks_of 1 (values opt.Blocks)) blocks;
      few_blocks = lies_high 1 MAX_GENERATED_BLOCKS (value_or blocks_of 1 (values opt.Blocks)) blocks;
      some_workers = (workers_are values).0;
      few_workers = (workers_are values).1;
    }

set_is : (values : Values) (kind : Kind) (target : Body) (files : List Text) → has_sets kind ≡ true → is_target target ≡ true
    → bad_in_set values kind ≡ None → KeepsToLimits (set_of values (search_of values kind target files))
unfolding set_of search_of_set search_of ask_of
set_is values kind target files sets body none = record {
  search = search_is values kind target files dir.Any (values_text values kind ++ ref2_text (values opt.Ref2)) body
      (good_in_set values kind none 2 (lit< tt)) (set_values_are values kind sets none);
  all = refl;
  kind = sets;
  references = references_are (relation_in values) (values opt.Ref2) (good_in_set values kind none 10 (lit< tt));
}

passing_is : {X : Type 0} (test : X → Bool) (found : Option X) → IfSome (passing test found) (λ x. test x ≡ true)
passing_is test None = tt
passing_is {X = X} test (Some x) = one (test x) refl
  where
    one : (b : Bool) → test x ≡ b → IfSome (cond b (Some x) None) (λ (y : X). test y ≡ true)
    one false is = tt
    one true is = is

set_keeps : (values : Values) (files : List Text)
    → IfOk (set_search_by values files) (λ find. KeepsToLimits (set_of values find))
unfolding set_search_by
set_keeps values files =
    of_kind (λ find. KeepsToLimits (set_of values find)) has_sets (bad_in_set values) values files
    (option_and_then set_kind_of (values opt.Kind))
    (passes_if has_sets set_kind_of (values opt.Kind) (λ word. passing_is has_sets (kind_of word)))
    (λ kind target. set_is values kind target files)

-- ---- scalars

abbrev keeps_below : ℕ → ℤ → Bool
keeps_below most z = nat_le (unsigned_abs z) most

negated_size : (n : ℕ) → unsigned_abs (neg_ℤ (pos n)) ≡ n
negated_size zero = refl
negated_size (suc n) = refl

signed_are : (digits most : ℕ) (word : Text) → IfSome (signed_of digits most word) (λ z. keeps_below most z ≡ true)
unfolding signed_of
signed_are digits most [] = tt
signed_are digits most (byte ∷ word) = by (byte == minus_sign)
  where
    negated : (found : Option ℕ) → IfSome found (λ n. lies_in 0 most n ≡ true)
        → IfSome (option_map (λ n. neg_ℤ (pos n)) found) (λ z. keeps_below most z ≡ true)
    negated None all = tt
    negated (Some n) all = ap (λ k. nat_le k most) (negated_size n) ∙ (both (nat_le 0 n) (nat_le n most) all).1

    whole : (found : Option ℕ) → IfSome found (λ n. lies_in 0 most n ≡ true)
        → IfSome (option_map pos found) (λ z. keeps_below most z ≡ true)
    whole None all = tt
    whole (Some n) all = (both (nat_le 0 n) (nat_le n most) all).1

    by : (minus : Bool) → IfSome (cond minus (option_map (λ n. neg_ℤ (pos n)) (number_of digits 0 most word))
        (option_map pos (number_of digits 0 most (byte ∷ word)))) (λ z. keeps_below most z ≡ true)
    by true = negated (number_of digits 0 most word) (numbers_are digits 0 most word)
    by false = whole (number_of digits 0 most (byte ∷ word)) (numbers_are digits 0 most (byte ∷ word))

small_is : (p q r : ℤ) → IfSome (small_quadratic p q r) (λ k. is_small k ≡ true)
small_is p q r = passing_is is_small (Some (record { p = p; q = q; r = r }))

numbers_small : (p q r : Option ℤ) → IfSome (quad_of_numbers p q r) (λ k. is_small k ≡ true)
numbers_small None q r = tt
numbers_small (Some p) None r = tt
numbers_small (Some p) (Some q) None = tt
numbers_small (Some p) (Some q) (Some r) = small_is p q r

quads_are : (word : Text) → IfSome (quad_of word) (λ k. is_small k ≡ true)
unfolding quad_of
quads_are word = parts_are (at_comma word)
  where
    two_are : (p : Text) (rest : Option (Text × Text)) → IfSome (quad_of_two p rest) (λ k. is_small k ≡ true)
    two_are p None = tt
    two_are p (Some (q, r)) = numbers_small (factor_of p) (factor_of q) (factor_of r)

    parts_are : (parts : Option (Text × Text)) → IfSome (quad_of_parts parts) (λ k. is_small k ≡ true)
    parts_are None = tt
    parts_are (Some (p, rest)) = two_are p (at_comma rest)

small_by : (k : Quadratic) → is_small k ≡ true → IsSmall k
small_by k small =
    let first = both (nat_le (unsigned_abs k.p) MAX_FACTOR)
    (nat_le (unsigned_abs k.q) MAX_FACTOR && nat_le (unsigned_abs k.r) MAX_SUMMAND) small in
    let others = both (nat_le (unsigned_abs k.q) MAX_FACTOR) (nat_le (unsigned_abs k.r) MAX_SUMMAND) first.1 in
    record {
      small_p = leb-true (unsigned_abs k.p) MAX_FACTOR first.0;
      small_q = leb-true (unsigned_abs k.q) MAX_FACTOR others.0;
      small_r = leb-true (unsigned_abs k.r) MAX_SUMMAND others.1;
    }

time_is : (given : Option Text) → unsigned_abs (value_or scalar_time_of (pos 0) given) ≤ MAX_SCALAR_TIME
time_is given =
    leb-true (unsigned_abs (value_or scalar_time_of (pos 0) given)) MAX_SCALAR_TIME
    (passes_or (keeps_below MAX_SCALAR_TIME) (pos 0) scalar_time_of given (signed_are MAX_DIGITS_OF_A_TIME MAX_SCALAR_TIME) refl)

scalar_is : (values : Values) → IsScalarWithinLimits (scalar_of values)
unfolding scalar_of plan_of
scalar_is values =
    record {
      small = small_by (quad_in values) (passes_or is_small nought_quad quad_of (values opt.Quad) quads_are refl);
      from = time_is (values opt.From);
      to = time_is (values opt.To);
      some_width = (width_is values).0;
      width = (width_is values).1;
      depth = depth_is values;
      some_workers = (workers_are values).0;
      workers = (workers_are values).1;
    }

scalar_keeps : (values : Values) → IfOk (scalar_by values) KeepsToLimits
unfolding scalar_by
scalar_keeps values = of_checked (checked_scalar values) (λ option. tt) (scalar_is values) (bad_in_scalar values)

-- ---- generated texts, and all requests
text_keeps : (values : Values) → IfOk (text_by values) KeepsToLimits
unfolding text_by
text_keeps values = of_checked (checked_text values) (λ option. tt) (text_is values) (bad_word values)

of_command : (name : CommandName) (values : Values) (files : List Text) → IfOk (request_by name values files) KeepsToLimits
of_command command.Find values files =
    of_searches IsWithinLimits _ (search_by values files) (λ find is. is) (search_keeps values files)
of_command command.Cert values files =
    of_searches IsWithinLimits _ (search_by values files) (λ find is. is) (search_keeps values files)
of_command command.Verify values files =
    of_searches IsWithinLimits _ (search_by values files) (verify_keeps (option_and_then name_of (values opt.Cert)))
    (search_keeps values files)
of_command command.Check values files = tt
of_command command.Gen values files = text_keeps values
of_command command.Set values files =
    of_searches (λ find. KeepsToLimits (set_of values find)) _ (set_search_by values files) (λ find is. is)
    (set_keeps values files)
of_command command.Scalar values files = scalar_keeps values

read_keeps : (refused : Bool) (request : Result Request WordFault) → IfOk request KeepsToLimits
    → IfOk (cond refused (Err Words) request) KeepsToLimits
read_keeps true request is = tt
read_keeps false request is = is

of_first : (name : Option CommandName) (words : List Text) → IfOk (request_for name words) KeepsToLimits
of_first None words = tt
of_first (Some name) words =
    let rules = command_rules name in
    read_keeps (is_refused rules words) _ (of_command name (values_in rules words) (files_in rules words))

all_keep : (words : List Text) → IfOk (request_of words) KeepsToLimits
unfolding request_of
all_keep [] = tt
all_keep (word ∷ words) = of_first (command_of word) (word ∷ words)

pub requests_keep_to_limits : (words : List Text) (request : Request) → request_of words ≡ Ok request → KeepsToLimits request
requests_keep_to_limits words request is = subst (λ (read : Result Request WordFault). IfOk read KeepsToLimits) is (all_keep words)
