-- Fractions that are a whole number over a denominator that is given.
use Rattle.std.specs.Prelude.{ℕ, ◌<◌, ℤ}
use Rattle.spec_intervals.specs.Fraction.{Fraction, IsFraction, fraction}
use Rattle.spec_bodies.specs.Meanings.{AreEqual}

-- r is n / d
pub record IsRatio (r : Fraction) (n : ℤ) (d : ℕ) : Type 0 where
  pub is_fraction : IsFraction r
  pub positive : 0 < d
  pub equal : AreEqual r (fraction n d)
