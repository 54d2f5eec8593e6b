-- Scenes of the worked examples, in whole km.
use Rattle.std.specs.Prelude.{ℤ, pos, neg_ℤ}
use Rattle.spec_text.specs.declared.decimals.Decimal.{Decimal}
use Rattle.spec_intervals.specs.Fraction.{Fraction, fraction}
use Rattle.spec_expressions.specs.Term.{Leaf, Term, exact_of}
use Rattle.spec_kinds.specs.declared.kind.Kind.{Kind}
use Rattle.spec_kinds.specs.Kinds.{kind_function}
use Rattle.spec_meanings.specs.Space.{Triple}
use Rattle.spec_meanings.specs.Scenes.{Scene, seen}

abbrev pub at : ℤ → ℤ → ℤ → Triple
at x y z = record { x = x; y = y; z = z }

-- the exact coordinates of a scene
abbrev pub coordinates_of : Scene → Leaf → ℤ → Fraction
coordinates_of s leaf t = fraction (seen s leaf) s.unit

-- a term's numerator in a scene, and that of a kind's function with two values
abbrev pub worth : Term → Scene → ℤ
worth term s = (exact_of (coordinates_of s) term (pos 0)).numerator

abbrev pub function_worth : Kind → Decimal → Decimal → Scene → ℤ
function_worth kind one other s = worth (kind_function kind 0 one other) s

abbrev pub scene : Triple → Triple → Triple → Triple → Scene
scene target second target_velocity second_velocity = record { unit = 1; target = target; second = second; target_velocity = target_velocity; second_velocity = second_velocity }

-- two bodies at rest
abbrev pub at_rest : Triple → Triple → Scene
at_rest target second = scene target second (at (pos 0) (pos 0) (pos 0)) (at (pos 0) (pos 0) (pos 0))

-- 3 and 7 km away, both moving
abbrev pub moving : Scene
moving =
    scene (at (pos 1) (pos 2) (pos 2)) (at (pos 2) (pos 3) (pos 6)) (at (pos 1) (pos 0) (pos 1)) (at (pos 0) (pos 1) (neg_ℤ (pos 1)))

-- spheres of the radii 15 at (25, 0, 0) and 25 at (63, 16, 0) touch from inside, by the right triangles with the sides 15,
-- 20, 25 and 25, 60, 65; so do one of 25 at (63, 16, 0) and one of 45 at (75, 0, 0)
abbrev pub inside : Scene
inside = at_rest (at (pos 25) (pos 0) (pos 0)) (at (pos 63) (pos 16) (pos 0))

abbrev pub within : Scene
within = at_rest (at (pos 63) (pos 16) (pos 0)) (at (pos 75) (pos 0) (pos 0))
