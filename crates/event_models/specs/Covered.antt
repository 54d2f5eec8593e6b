-- Models that cover an interval at each time of a span.
use Rattle.std.specs.Prelude.{ℤ, pos, ◌-ℤ◌, ◌*ℤ◌, ◌≤ℤ◌, Option, IfSome}
use Rattle.spec_intervals.specs.Interval.{Interval}
use Rattle.spec_models.specs.Models.{Covers, Model}
use Rattle.spec_models.specs.Ends.{IsOrdered}

-- the numerator of a time's argument over the times from c to d; its denominator is d - c
abbrev pub argument : ℤ → ℤ → ℤ → ℤ
argument c d t = pos 2 *ℤ t -ℤ c -ℤ d

-- the ends are in order, and the model covers them
pub record IsCovered (m : Model) (p q : ℤ) (x : Interval) : Type 0 where
  pub ordered : IsOrdered x
  pub covers : Covers m p q x

-- it covers the interval of each time from c to d
abbrev pub IsModelOf : ℤ → ℤ → Model → (ℤ → Interval) → Type 0
IsModelOf c d m f = (t : ℤ) → c ≤ℤ t → t ≤ℤ d → IsCovered m (argument c d t) (d -ℤ c) (f t)

-- if a model is made, it does
abbrev pub IsIfMade : ℤ → ℤ → Option Model → (ℤ → Interval) → Type 0
IsIfMade c d made f = IfSome made (λ m. IsModelOf c d m f)
