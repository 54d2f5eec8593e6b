-- When one interval includes another so firmly that every rule keeps it: all numbers of the other lie in it, and its unit
-- is no finer, so that rounding outward cannot carry the other past it.
use Rattle.std.specs.Prelude.{◌≡◌, ◌⊎◌, ℕ, ◌^◌, true, pos, ◌+ℤ◌, ◌*ℤ◌, ◌≤ℤ◌}
use Rattle.spec_intervals.specs.Interval.{Interval, is_zero}

-- y is in units that are 2^gap times those of x, and x lies in it
pub record Spans (y x : Interval) : Type 0 where
  pub gap : ℕ
  pub exponent : y.s ≡ x.s +ℤ pos gap
  pub low : (y.lo *ℤ pos (2 ^ gap)) ≤ℤ x.lo
  pub high : x.hi ≤ℤ (y.hi *ℤ pos (2 ^ gap))

-- x is 0 alone, whatever its exponent, and y holds 0
pub record HoldsZero (y x : Interval) : Type 0 where
  pub zero : is_zero x ≡ true
  pub low : y.lo ≤ℤ pos 0
  pub high : pos 0 ≤ℤ y.hi

abbrev pub Includes : Interval → Interval → Type 0
Includes y x = Spans y x ⊎ HoldsZero y x
