-- The function and the conditions of occultations of one sphere by another, as in SPICE's `gfoclt`. The target is in
-- front, the second body at the back. For an observer outside both spheres `Any` is at least 0 where the discs overlap,
-- and `Full` and `Annular` where one of them lies within the other.
use Rattle.std.specs.Prelude.{List, [], ◌∷◌, true, false}
use Rattle.spec_text.specs.declared.decimals.Decimal.{Decimal}
use Rattle.spec_expressions.specs.Term.{Term, length, sum, difference, product, signed_square}
use Rattle.spec_expressions.specs.Vectors.{dot, squared_length}
use Rattle.spec_searches.specs.Event.{Condition}
use Rattle.spec_kinds.specs.declared.shadow.Shadow.{Shadow}
use Rattle.spec_kinds.specs.declared.shadow.Shadow.TheVariants.{Any, Full, Annular}
use Rattle.spec_kinds.specs.Vectors.{target, second}

-- ---- conditions: a term that has to be at least 0, or below 0
abbrev pub at_least_0 : Term → Condition
at_least_0 x = record { term = x; at_least = true }

abbrev pub below_0 : Term → Condition
below_0 x = record { term = x; at_least = false }

-- ---- with A and B the squares of the distances, D the dot product of the places and r and s the radii
-- D + r s, or D - r s
abbrev pub between : Shadow → Decimal → Decimal → Term
between Any front back = sum (dot target second) (product (length front) (length back))
between Full front back = difference (dot target second) (product (length front) (length back))
between Annular front back = difference (dot target second) (product (length front) (length back))

-- (A - r^2) (B - s^2)
abbrev pub tangents : Decimal → Decimal → Term
tangents front back =
    product (difference (dot target target) (squared_length front)) (difference (dot second second) (squared_length back))

-- (D + r s) |D + r s| - (A - r^2) (B - s^2), or with D - r s
abbrev pub shadow_function : Shadow → Decimal → Decimal → Term
shadow_function shadow front back = difference (signed_square (between shadow front back)) (tangents front back)

-- B - A: the target is no farther than the second body
abbrev pub farther : Term
farther = difference (dot second second) (dot target target)

-- r^2 B - s^2 A: the disc of the target is no smaller than that of the second body
abbrev pub larger : Decimal → Decimal → Term
larger front back =
    difference (product (squared_length front) (dot second second)) (product (squared_length back) (dot target target))

abbrev pub shadow_conditions : Shadow → Decimal → Decimal → List Condition
shadow_conditions Any front back = at_least_0 farther ∷ []
shadow_conditions Full front back = at_least_0 farther ∷ at_least_0 (larger front back) ∷ []
shadow_conditions Annular front back = at_least_0 farther ∷ below_0 (larger front back) ∷ []
