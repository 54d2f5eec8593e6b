-- Short names for worked values.
use Rattle.std.specs.Prelude.{ℕ, ◌+◌, [], ◌∷◌, pos}
use Rattle.spec_intervals.specs.Fraction.{Fraction, fraction}
use Rattle.spec_intervals.specs.Interval.{Interval, interval}
use Rattle.spec_expressions.specs.Term.{Leaf}
use Rattle.spec_bodies.specs.declared.factor.Factor.{Factor}
use Rattle.spec_models.specs.Models.{Model, model}

-- 3 + 2 x, known within 1
abbrev pub line : Model
line = model (pos 3 ∷ pos 2 ∷ []) 1 (pos 0)

-- from 2 to 3, whatever is asked for
abbrev pub two_to_three : Leaf → Interval
two_to_three l = interval (pos 2) (pos 3) (pos 0)

-- from the number of a column to the next
abbrev pub numbered : ℕ → ℕ → Interval
numbered number axis = interval (pos number) (pos (number + 1)) (pos 0)

-- 1/2, whatever the factor
abbrev pub half : Factor → Fraction
half f = fraction (pos 1) 2
