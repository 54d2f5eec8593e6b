-- The interval of 0 alone, multiplied.
use Rattle.std.proofs.Common.{◌≡◌, pos, ◌+ℤ◌}
use Rattle.std.proofs.Math.IntN.{zero-*ℤ}
use Rattle.spec_intervals.specs.Interval.{Interval, product, zero_interval}
use Rattle.spec_intervals.proofs.Narrow.{narrow_of_zero}

pub product_of_zero : (x : Interval) → product zero_interval x ≡ zero_interval
unfolding product
product_of_zero x = rw (zero-*ℤ x.lo, zero-*ℤ x.hi) (narrow_of_zero (pos 0 +ℤ x.s))
