-- What the ends of two intervals are at one exponent.
use Rattle.std.specs.Prelude.{◌≡◌, ◌≤◌, ◌^◌, ◌*◌, ◌≤ℤ◌, unsigned_abs}
use Rattle.spec_intervals.specs.Interval.{Interval, aligned_lower, aligned_upper, end_limit, exponent_limit}
use Rattle.ival_core.specs.declared.ival.Aligned.{Aligned}

pub record IsAligned (x y : Interval) (at : Aligned) : Type 0 where
  pub lower_lo : at.lower_lo ≡ (aligned_lower x y).lo
  pub lower_hi : at.lower_hi ≡ (aligned_lower x y).hi
  pub upper_lo : at.upper_lo ≡ (aligned_upper x y).lo
  pub upper_hi : at.upper_hi ≡ (aligned_upper x y).hi
  pub exponent : at.s ≡ (aligned_lower x y).s
  pub lower_ordered : at.lower_lo ≤ℤ at.lower_hi
  pub upper_ordered : at.upper_lo ≤ℤ at.upper_hi
  pub lower_lo_small : unsigned_abs at.lower_lo ≤ end_limit
  pub lower_hi_small : unsigned_abs at.lower_hi ≤ end_limit
  pub upper_lo_bound : unsigned_abs at.upper_lo ≤ 2 ^ 122
  pub upper_hi_bound : unsigned_abs at.upper_hi ≤ 2 ^ 122
  pub exponent_bound : unsigned_abs at.s ≤ 4 * exponent_limit
