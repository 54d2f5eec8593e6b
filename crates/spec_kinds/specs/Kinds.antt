-- The formulas of kinds: the function that passes 0 at an event, and the conditions that hold there. All is geometric, as in
-- SPICE with no aberration correction. `Conj`, `Oppo` and `Station` are this program's own, and so are all names.
use Rattle.std.specs.Prelude.{ℕ, List, [], ◌∷◌}
use Rattle.spec_text.specs.declared.decimals.Decimal.{Decimal}
use Rattle.spec_expressions.specs.Term.{Term, length, cosine, sum, difference, product, signed_square}
use Rattle.spec_expressions.specs.Vectors.{coordinate, dot, squared_length}
use Rattle.spec_searches.specs.Event.{Condition, Event}
use Rattle.spec_kinds.specs.declared.ask.Ask.{Ask}
use Rattle.spec_kinds.specs.declared.kind.Kind.{Kind}
use Rattle.spec_kinds.specs.declared.kind.Kind.TheVariants as K
use Rattle.spec_kinds.specs.declared.shadow.Shadow.TheVariants as S
use Rattle.spec_kinds.specs.Vectors.{target, second, target_velocity, second_velocity, plane_dot, plane_cross}
use Rattle.spec_kinds.specs.Shadows.{at_least_0, below_0, shadow_function, shadow_conditions}

-- ---- with A and B the squares of the distances, D the dot product of the places, and ' for what changes a tick
-- x - v, of one coordinate
abbrev pub coordinate_function : ℕ → Decimal → Term
coordinate_function axis value = difference (coordinate target axis) (length value)

-- A - v^2
abbrev pub radius_function : Decimal → Term
radius_function value = difference (dot target target) (squared_length value)

-- half of A'
abbrev pub apsis_function : Term
apsis_function = dot target target_velocity

-- D |D| - (C |C|) (A B), with C the cosine
abbrev pub separation_function : Decimal → Term
separation_function angle =
    difference
    (signed_square (dot target second))
    (product (signed_square (cosine angle)) (product (dot target target) (dot second second)))

-- D' = a' b + a b'
abbrev pub dot_change : Term
dot_change = sum (dot target_velocity second) (dot target second_velocity)

-- D' (A B) - D ((a a') B + A (b b')): what changes the cosine of the angle
abbrev pub separation_change : Term
separation_change =
    difference
    (product dot_change (product (dot target target) (dot second second)))
    (product
    (dot target second)
    (sum
    (product (dot target target_velocity) (dot second second))
    (product (dot target target) (dot second second_velocity))))

-- ---- the rows
abbrev pub kind_function : Kind → ℕ → Decimal → Decimal → Term
-- SPICE's gfposc, a rectangular coordinate that equals a value
kind_function K.Coord axis v w = coordinate_function axis v
-- SPICE's gfdist, a distance that equals a value
kind_function K.Radius axis v w = radius_function v
-- SPICE's gfdist, a distance that is a local minimum or maximum
kind_function K.Apsis axis v w = apsis_function
-- own: both lie in one half plane through the z axis, or in opposite ones
kind_function K.Conj axis v w = plane_cross target second
kind_function K.Oppo axis v w = plane_cross target second
-- own: the direction in the x y plane turns round
kind_function K.Station axis v w = plane_cross target target_velocity
-- SPICE's gfsep, an angle between two points that equals a value
kind_function K.Sep axis v w = separation_function v
-- SPICE's gfsep, an angle between two points that is a local minimum or maximum
kind_function K.SepExt axis v w = separation_change
-- SPICE's gfoclt, an occultation of the type ANY, FULL or ANNULAR of a sphere by a sphere
kind_function K.Any axis v w = shadow_function S.Any v w
kind_function K.Full axis v w = shadow_function S.Full v w
kind_function K.Annular axis v w = shadow_function S.Annular v w

abbrev pub kind_conditions : Kind → Decimal → Decimal → List Condition
kind_conditions K.Coord v w = []
kind_conditions K.Radius v w = []
kind_conditions K.Apsis v w = []
kind_conditions K.Conj v w = at_least_0 (plane_dot target second) ∷ []
kind_conditions K.Oppo v w = below_0 (plane_dot target second) ∷ []
kind_conditions K.Station v w = []
kind_conditions K.Sep v w = []
kind_conditions K.SepExt v w = []
kind_conditions K.Any v w = shadow_conditions S.Any v w
kind_conditions K.Full v w = shadow_conditions S.Full v w
kind_conditions K.Annular v w = shadow_conditions S.Annular v w

-- ---- of an ask
abbrev pub function_of : Ask → Term
function_of ask = kind_function ask.kind ask.axis ask.value1 ask.value2

abbrev pub conditions_of : Ask → List Condition
conditions_of ask = kind_conditions ask.kind ask.value1 ask.value2

abbrev pub event_of : Ask → Event
event_of ask = record { function = function_of ask; conditions = conditions_of ask; dir = ask.dir }
