-- Which asks are refused, and why: the first fault that applies.
use Rattle.std.specs.Prelude.{ℕ, ◌*◌, ◌^◌, ◌==◌, nat_lt, nat_le, Bool, true, false, not, ◌&&◌, ◌||◌, List, [], ◌∷◌, Option, None, Some, if◌then◌else◌, ℤ, pos, negsuc, unsigned_abs}
use Rattle.std.specs.List.{list_all, list_any}
use borrow.Author.Differences.{up, down}
use Rattle.spec_text.specs.declared.decimals.Decimal.{Decimal}
use Rattle.spec_faults.specs.declared.numbers.TheConstants.{BODY_ABSENT, SAME_BODY, REFERENCE_RANGE}
use Rattle.spec_ephemeris.specs.declared.body.Body.{Body}
use Rattle.spec_ephemeris.specs.declared.body.Body.TheVariants.{Mercury, Venus, Emb, Mars, Jupiter, Saturn, Uranus, Neptune, Pluto, Moon, Sun, Earth, Ssb}
use Rattle.spec_ephemeris.specs.Header.{has_column}
use Rattle.spec_ephemeris.specs.Ephemeris.{Ephemeris}
use Rattle.spec_bodies.specs.Sources.{source_of, needed_columns}
use Rattle.spec_kinds.specs.declared.ask.Ask.{Ask}
use Rattle.spec_kinds.specs.declared.fault.EventFault.{EventFault}
use Rattle.spec_kinds.specs.declared.fault.EventFault.TheVariants.{BodyAbsent, SameBody, ReferenceRange}
use Rattle.spec_kinds.specs.declared.kind.Kind.{Kind}
use Rattle.spec_kinds.specs.declared.table.Range.{Range}
use Rattle.spec_kinds.specs.declared.table.Range.TheVariants.{Length, Distance, Cosine, Free}
use Rattle.spec_kinds.specs.Table.{row_of, takes_radii}
use Rattle.spec_kinds.specs.Asks.{bodies_of}

-- ---- columns that are absent
-- the columns that a body needs are there
abbrev pub has_body : Ephemeris → Body → Bool
has_body e body = list_all (λ number. has_column e.header number) (needed_columns (source_of body))

-- ---- bodies that are one
-- the number of a body among all, by which bodies are compared
abbrev pub body_number : Body → ℕ
body_number Mercury = 0
body_number Venus = 1
body_number Emb = 2
body_number Mars = 3
body_number Jupiter = 4
body_number Saturn = 5
body_number Uranus = 6
body_number Neptune = 7
body_number Pluto = 8
body_number Moon = 9
body_number Sun = 10
body_number Earth = 11
body_number Ssb = 12

abbrev pub is_same : Body → Body → Bool
is_same one other = body_number one == body_number other

-- two of the bodies are one
abbrev pub has_twice : List Body → Bool
has_twice [] = false
has_twice (body ∷ bodies) = list_any (is_same body) bodies || has_twice bodies

-- ---- numbers out of range
-- below 2^36 km in magnitude
abbrev pub is_distance : Decimal → Bool
is_distance d = nat_lt (unsigned_abs d.mant * 10 ^ up d.exp) (2 ^ 36 * 10 ^ down d.exp)

-- at most 1 in magnitude
abbrev pub is_cosine : Decimal → Bool
is_cosine d = nat_le (unsigned_abs d.mant * 10 ^ up d.exp) (10 ^ down d.exp)

abbrev pub is_negative : ℤ → Bool
is_negative (pos n) = false
is_negative (negsuc n) = true

-- from 0 km to below 2^36 km
abbrev pub is_radius : Decimal → Bool
is_radius d = not (is_negative d.mant) && is_distance d

-- a reference value of this range
abbrev pub is_in_range : Range → Decimal → Bool
is_in_range Length v = is_distance v
is_in_range Distance v = is_radius v
is_in_range Cosine v = is_cosine v
is_in_range Free v = true

-- the numbers that a kind uses are such as it takes: two radii, or a reference value
abbrev pub are_in_range : Kind → Decimal → Decimal → Bool
are_in_range kind v w =
    if takes_radii kind then is_radius v && is_radius w else is_in_range (row_of kind).range v

-- ---- the first fault that applies
unfoldable pub fault_of : Ephemeris → Ask → Option EventFault
fault_of e ask =
    if not (list_all (has_body e) (bodies_of ask)) then Some BodyAbsent
    else if has_twice (bodies_of ask) then Some SameBody
    else if not (are_in_range ask.kind ask.value1 ask.value2) then Some ReferenceRange
    else None

-- the number under which a fault is reported
abbrev pub number_of : EventFault → ℕ
number_of BodyAbsent = BODY_ABSENT
number_of SameBody = SAME_BODY
number_of ReferenceRange = REFERENCE_RANGE
