-- The Chebyshev series of one coordinate over a granule, and its exact value at each time.
-- Times are seconds or ticks since J2000 in TDB, and positions are in km.
use Rattle.std.specs.Prelude.{ℕ, suc, ◌*◌, ◌-◌, ◌^◌, List, [], ◌∷◌, length, ℤ, pos, negsuc, ◌+ℤ◌, ◌-ℤ◌, ◌*ℤ◌, neg_ℤ, ◌≤ℤ◌}
use Rattle.spec_text.specs.declared.decimals.Decimal.{Decimal}
use Rattle.spec_intervals.specs.Fraction.{Fraction}
use Rattle.spec_intervals.specs.Interval.{IsDistance}
use Rattle.spec_chebyshev.specs.Polynomials.{cleared_t}
use Rattle.spec_numbers.specs.Numbers.{power}

-- a granule begins at `start` and takes `duration`; over it the coordinate is the sum of c_k T_k, with c_0 first
pub record Series : Type 0 where
  pub start : ℤ
  pub duration : ℕ
  pub coefficients : List Decimal

-- u at a time: the argument of the polynomials is u / duration, from -1 at the granule's start to 1 at its end
abbrev pub argument_at : Series → ℤ → ℤ
argument_at s t = pos 2 *ℤ (t -ℤ s.start) -ℤ pos s.duration

abbrev pub to_nat : ℤ → ℕ
to_nat (pos n) = n
to_nat (negsuc n) = 0

-- a whole number of units of 10^-140, as each decimal of a file is
abbrev pub IsInUnits : Decimal → Type 0
IsInUnits d = neg_ℤ (pos 140) ≤ℤ d.exp

-- a coefficient of a position is below 2^36 km in size
abbrev pub IsCoefficient : Decimal → Type 0
IsCoefficient d = IsDistance d.mant d.exp

-- in these units
abbrev pub scaled : Decimal → ℤ
scaled d = d.mant *ℤ pos (10 ^ to_nat (pos 140 +ℤ d.exp))

-- the sum of c_k P_k(u / l) from k on, where P_k(u / l) is a whole number `p k` over a power of l: in units of 10^-140,
-- times that power for the last k
abbrev pub cleared_sum : (ℕ → ℤ) → ℤ → ℕ → List Decimal → ℤ
cleared_sum p l k [] = pos 0
cleared_sum p l k (c ∷ cs) = scaled c *ℤ (p k *ℤ power l (length cs)) +ℤ cleared_sum p l (suc k) cs

-- the exact position at a time: the sum of c_k T_k
abbrev pub position : Series → ℤ → Fraction
position s t = record {
  numerator = cleared_sum (cleared_t (argument_at s t) (pos s.duration)) (pos s.duration) 0 s.coefficients;
  denominator = 10 ^ 140 * s.duration ^ (length s.coefficients - 1);
}
