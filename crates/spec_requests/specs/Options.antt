-- The table of options: what form the value of each has, which kinds of events use it, and which is the first that is bad.
use Rattle.std.specs.Prelude.{ℕ, ◌==◌, ◌&&◌, ◌||◌, ◌++◌, List, [], ◌∷◌, Bool, true, false, not, nat_lt, nat_le, length, Option, None, Some, is_some, if◌then◌else◌, find, option_and_then, option_map, unwrap_or, ℤ, pos, neg_ℤ}
use Rattle.std.specs.Char.{is_ascii_digit}
use Rattle.std.specs.List.{after_first, before_first, list_all, position_or_len}
use Rattle.std.specs.Result.{result_ok}
use Rattle.spec_text.specs.declared.decimals.Decimal.{Decimal}
use Rattle.std.specs.Str.Parse.{digits_value}
use Rattle.spec_text.specs.Bytes.{minus_sign}
use Rattle.spec_text.specs.Reading.{reading}
use Rattle.spec_times.specs.Ticks.{tick_of}
use Rattle.spec_scalars.specs.Quads.{Quadratic, small_quadratic}
use Rattle.spec_kinds.specs.declared.kind.Kind.{Kind}
use Rattle.spec_kinds.specs.declared.kind.Kind.TheVariants as kind
use Rattle.spec_kinds.specs.declared.table.Use.{Use}
use Rattle.spec_kinds.specs.declared.table.Use.TheVariants.{Needed, Optional, Unused}
use Rattle.spec_kinds.specs.Table.{row_of, is_needed, is_unused, takes_radii}
use Rattle.spec_requests.specs.declared.request.Named.{Named}
use Rattle.spec_requests.specs.declared.request.Named.TheVariants as opt
use Rattle.spec_requests.specs.declared.request.Relation.{Relation}
use Rattle.spec_requests.specs.declared.request.Relation.TheVariants as relation
use Rattle.spec_requests.specs.declared.tables.TheConstants.{FIND_OPTIONS, SCALAR_OPTIONS, SET_OPTIONS}
use Rattle.spec_requests.specs.declared.limits.TheConstants.{DEFAULT_TICK, MAX_DIGITS_OF_A_COUNT, MAX_WIDTH, MAX_DEPTH, MAX_WORKERS, MAX_DIGITS_OF_BLOCKS, MAX_GENERATED_BLOCKS, MAX_DIGITS_OF_A_SEED, MAX_SEED, MAX_DIGITS_OF_A_FACTOR, MAX_WRITTEN_FACTOR, MAX_DIGITS_OF_A_TIME, MAX_SCALAR_TIME}
use Rattle.spec_requests.specs.Names.{Text, kind_of, target_of, observer_of, frame_of, axis_of, dir_of, relation_of, cut_of, layout_of, tick_of_word}

-- ---- forms

-- the word is 1 to `most` digits
abbrev pub are_digits : ℕ → Text → Bool
are_digits most word = list_all is_ascii_digit word && (nat_lt 0 (length word) && nat_le (length word) most)

-- the number from `least` to `most` that a word of so many digits is
unfoldable pub number_of : ℕ → ℕ → ℕ → Text → Option ℕ
number_of digits least most word =
    if are_digits digits word && (nat_le least (digits_value 10 word) && nat_le (digits_value 10 word) most)
    then Some (digits_value 10 word) else None

abbrev pub width_of : Text → Option ℕ
width_of = number_of MAX_DIGITS_OF_A_COUNT 1 MAX_WIDTH

abbrev pub depth_of : Text → Option ℕ
depth_of = number_of MAX_DIGITS_OF_A_COUNT 0 MAX_DEPTH

abbrev pub workers_of : Text → Option ℕ
workers_of = number_of MAX_DIGITS_OF_A_COUNT 1 MAX_WORKERS

abbrev pub blocks_of : Text → Option ℕ
blocks_of = number_of MAX_DIGITS_OF_BLOCKS 1 MAX_GENERATED_BLOCKS

abbrev pub seed_of : Text → Option ℕ
seed_of = number_of MAX_DIGITS_OF_A_SEED 0 MAX_SEED

unfoldable pub decimal_of : Text → Option Decimal
decimal_of word = result_ok (reading word)

-- a time, in so many ticks to a second
unfoldable pub instant_of : ℕ → Text → Option ℤ
instant_of tick word = result_ok (tick_of tick word)

-- a whole number of so many digits and at most this magnitude: perhaps a minus sign, and its digits
unfoldable pub signed_of : ℕ → ℕ → Text → Option ℤ
signed_of digits most [] = None
signed_of digits most (byte ∷ word) =
    if byte == minus_sign then option_map (λ n. neg_ℤ (pos n)) (number_of digits 0 most word)
    else option_map pos (number_of digits 0 most (byte ∷ word))

-- a time of a scalar
abbrev pub scalar_time_of : Text → Option ℤ
scalar_time_of = signed_of MAX_DIGITS_OF_A_TIME MAX_SCALAR_TIME

abbrev pub factor_of : Text → Option ℤ
factor_of = signed_of MAX_DIGITS_OF_A_FACTOR MAX_WRITTEN_FACTOR

abbrev pub is_comma : ℕ → Bool
is_comma byte = byte == 44

-- what stands before the first comma, and what stands after it
unfoldable pub at_comma : Text → Option (Text × Text)
at_comma word =
    if nat_lt (position_or_len is_comma word) (length word)
    then Some (before_first is_comma word, after_first is_comma word) else None

-- the polynomial of these three numbers, where it is one that can be searched for
abbrev pub quad_of_numbers : Option ℤ → Option ℤ → Option ℤ → Option Quadratic
quad_of_numbers p q r =
    option_and_then (λ p. option_and_then (λ q. option_and_then (λ r. small_quadratic p q r) r) q) p

abbrev pub quad_of_two : Text → Option (Text × Text) → Option Quadratic
quad_of_two p None = None
quad_of_two p (Some (q, r)) = quad_of_numbers (factor_of p) (factor_of q) (factor_of r)

abbrev pub quad_of_parts : Option (Text × Text) → Option Quadratic
quad_of_parts None = None
quad_of_parts (Some (p, rest)) = quad_of_two p (at_comma rest)

-- a polynomial: its three numbers, joined by commas
unfoldable pub quad_of : Text → Option Quadratic
quad_of word = quad_of_parts (at_comma word)

-- a file has any name but the empty one
abbrev pub name_of : Text → Option Text
name_of [] = None
name_of (byte ∷ rest) = Some (byte ∷ rest)

-- ---- uses

-- the options of `verify`
abbrev pub verify_options : List Named
verify_options = FIND_OPTIONS ++ opt.Cert ∷ []

-- how a kind uses an option, by the table of kinds
abbrev pub use_of : Named → Kind → Use
use_of opt.Kind kind = Needed
use_of opt.Target kind = Needed
use_of opt.Cert kind = Needed
use_of opt.Second kind = (row_of kind).second
use_of opt.Frame kind = (row_of kind).frame
use_of opt.Axis kind = (row_of kind).axis
use_of opt.Ref kind = (row_of kind).reference
use_of opt.Radius1 kind = (row_of kind).radii
use_of opt.Radius2 kind = (row_of kind).radii
use_of _ kind = Optional

-- ---- the first that is bad

-- the option is needed and has no word, is not used and has one, or its word is not of this form
abbrev pub is_misread : {X : Type 0} → (Text → Option X) → Use → Option Text → Bool
is_misread form usage None = is_needed usage
is_misread form usage (Some word) = is_unused usage || not (is_some (form word))

-- the same of an option, whose form is that of its values, where a second has so many ticks
abbrev pub is_bad : ℕ → Named → Use → Option Text → Bool
is_bad tick opt.Kind usage given = is_misread kind_of usage given
is_bad tick opt.Target usage given = is_misread target_of usage given
is_bad tick opt.Second usage given = is_misread target_of usage given
is_bad tick opt.Observer usage given = is_misread observer_of usage given
is_bad tick opt.Frame usage given = is_misread frame_of usage given
is_bad tick opt.Axis usage given = is_misread axis_of usage given
is_bad tick opt.Ref usage given = is_misread decimal_of usage given
is_bad tick opt.Radius1 usage given = is_misread decimal_of usage given
is_bad tick opt.Radius2 usage given = is_misread decimal_of usage given
is_bad tick opt.Relation usage given = is_misread relation_of usage given
is_bad tick opt.Ref2 usage given = is_misread decimal_of usage given
is_bad tick opt.Dir usage given = is_misread dir_of usage given
is_bad tick opt.Tick usage given = is_misread tick_of_word usage given
is_bad tick opt.From usage given = is_misread (instant_of tick) usage given
is_bad tick opt.To usage given = is_misread (instant_of tick) usage given
is_bad tick opt.Width usage given = is_misread width_of usage given
is_bad tick opt.Depth usage given = is_misread depth_of usage given
is_bad tick opt.Workers usage given = is_misread workers_of usage given
is_bad tick opt.Cut usage given = is_misread cut_of usage given
is_bad tick opt.Cert usage given = is_misread name_of usage given
is_bad tick opt.Layout usage given = is_misread layout_of usage given
is_bad tick opt.Blocks usage given = is_misread blocks_of usage given
is_bad tick opt.Seed usage given = is_misread seed_of usage given
is_bad tick opt.Quad usage given = is_misread quad_of usage given

-- which value each option has
abbrev pub Values : Type 0
Values = Named → Option Text

-- how many ticks the options give a second; the option itself is looked at before the times that are read by it
abbrev pub tick_in : Values → ℕ
tick_in values = unwrap_or (option_and_then tick_of_word (values opt.Tick)) DEFAULT_TICK

-- the first option of a search that a kind finds bad
unfoldable pub bad_option : Values → Kind → Option Named
bad_option values kind = find (λ option. is_bad (tick_in values) option (use_of option kind) (values option)) FIND_OPTIONS

-- ---- sets

-- a kind without a condition beside its function
abbrev pub has_sets : Kind → Bool
has_sets kind.Conj = false
has_sets kind.Oppo = false
has_sets kind = not (takes_radii kind)

-- a relation to two references
abbrev pub is_to_two : Relation → Bool
is_to_two relation.Less = false
is_to_two relation.AtLeast = false
is_to_two relation.Within = true
is_to_two relation.Outside = true

-- a kind has the relations to two references where it has a reference
abbrev pub has_relation : Kind → Relation → Bool
has_relation kind relation = not (is_to_two relation) || not (is_unused (row_of kind).reference)

-- what passes the test
abbrev pub passing : {X : Type 0} → (X → Bool) → Option X → Option X
passing test None = None
passing test (Some x) = if test x then Some x else None

-- the kind of this name, where it has sets
abbrev pub set_kind_of : Text → Option Kind
set_kind_of word = passing has_sets (kind_of word)

-- the relation of this name, where the kind has it
abbrev pub relation_for : Kind → Text → Option Relation
relation_for kind word = passing (has_relation kind) (relation_of word)

-- a relation needs the second reference where it is to two
abbrev pub use_of_ref2 : Option Relation → Use
use_of_ref2 None = Unused
use_of_ref2 (Some relation) = if is_to_two relation then Needed else Unused

-- which relation the options name
abbrev pub relation_in : Values → Option Relation
relation_in values = option_and_then relation_of (values opt.Relation)

abbrev pub is_bad_in_set : Values → Kind → Named → Bool
is_bad_in_set values kind opt.Kind = is_misread set_kind_of Needed (values opt.Kind)
is_bad_in_set values kind opt.Relation = is_misread (relation_for kind) Needed (values opt.Relation)
is_bad_in_set values kind opt.Ref2 = is_misread decimal_of (use_of_ref2 (relation_in values)) (values opt.Ref2)
is_bad_in_set values kind option = is_bad (tick_in values) option (use_of option kind) (values option)

-- the first option of a set that a kind finds bad
unfoldable pub bad_in_set : Values → Kind → Option Named
bad_in_set values kind = find (is_bad_in_set values kind) SET_OPTIONS

-- ---- scalars

abbrev pub is_bad_in_scalar : Values → Named → Bool
is_bad_in_scalar values opt.Quad = is_misread quad_of Needed (values opt.Quad)
is_bad_in_scalar values opt.From = is_misread scalar_time_of Needed (values opt.From)
is_bad_in_scalar values opt.To = is_misread scalar_time_of Needed (values opt.To)
is_bad_in_scalar values option = is_bad DEFAULT_TICK option Optional (values option)

-- the first option of a scalar that is bad
unfoldable pub bad_in_scalar : Values → Option Named
bad_in_scalar values = find (is_bad_in_scalar values) SCALAR_OPTIONS
