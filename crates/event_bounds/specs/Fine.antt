-- Where exponents alone tell that a bound's range keeps its unit.
use Rattle.std.specs.Prelude.{◌≡◌, false, ◌≤ℤ◌, ◌+ℤ◌, pos, neg_ℤ}
use Rattle.spec_intervals.specs.Interval.{Interval, is_zero}

-- the range is not 0 alone, its unit is not too fine to say how coarse a sum is, and the unit of steps is well below its own
pub record IsFine (range step : Interval) : Type 0 where
  pub some : is_zero range ≡ false
  pub low : neg_ℤ (pos 58) ≤ℤ range.s
  pub far : (step.s +ℤ pos 4) ≤ℤ range.s
