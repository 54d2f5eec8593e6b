-- The exact velocity of a series at each time: the derivative of its position, in km per unit of time.
-- The derivative of T_k is k U_(k-1), and one unit is a step of 2 / duration in the argument.
use Rattle.std.specs.Prelude.{ℕ, zero, suc, ◌-◌, ◌*◌, ◌^◌, length, drop, ℤ, pos, ◌*ℤ◌}
use Rattle.spec_intervals.specs.Fraction.{Fraction}
use Rattle.spec_chebyshev.specs.Polynomials.{cleared_u}
use Rattle.spec_ephemeris.specs.Series.{Series, argument_at, cleared_sum}

-- T_k'(u / l) = k U_(k-1)(u / l) is a whole number over l^(k-1)
abbrev pub cleared_slope : ℤ → ℤ → ℕ → ℤ
cleared_slope u l zero = pos 0
cleared_slope u l (suc k) = pos (suc k) *ℤ cleared_u u l k

-- the exact velocity at a time: 2 / duration times the sum of c_k k U_(k-1) from k = 1 on
abbrev pub velocity : Series → ℤ → Fraction
velocity s t = record {
  numerator = pos 2 *ℤ cleared_sum (cleared_slope (argument_at s t) (pos s.duration)) (pos s.duration) 1 (drop 1 s.coefficients);
  denominator = 10 ^ 140 * s.duration ^ (length s.coefficients - 1);
}
