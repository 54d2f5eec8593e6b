-- Sums of intervals of coefficients times the entries of a row, in whole numbers, before they are narrowed.
use Rattle.std.specs.Prelude.{ℕ, zero, suc, List, [], ◌∷◌, ℤ, pos, ◌+ℤ◌, ◌*ℤ◌}
use Rattle.spec_text.specs.declared.decimals.Decimal.{Decimal}
use Rattle.spec_intervals.specs.Interval.{distance_exponent, from_decimal, least4, greatest4}
use Rattle.spec_chebyshev.specs.declared.ends.Ival62.{Ival62}
use Rattle.spec_chebyshev.specs.Rows.{ends, nothing, u_row, r_row}

-- a coefficient in units of 2^-24 km, rounded outward
abbrev pub coefficient : Decimal → Ival62
coefficient c = ends (from_decimal c.mant c.exp distance_exponent).lo (from_decimal c.mant c.exp distance_exponent).hi

-- k times the numbers of an entry
abbrev pub times : ℕ → Ival62 → Ival62
times k e = ends (pos k *ℤ e.lo) (pos k *ℤ e.hi)

-- the row of k X_(k-1)
abbrev pub multiples : (ℕ → Ival62) → ℕ → Ival62
multiples row zero = nothing
multiples row (suc k) = times (suc k) (row k)

-- the derivatives T_k' = k U_(k-1), in the unit of U, and the divided differences of these, in the unit of R
abbrev pub slope_row : Ival62 → ℕ → Ival62
slope_row x = multiples (u_row x)

abbrev pub slope_difference_row : Ival62 → ℕ → Ival62
slope_difference_row x = multiples (r_row x)

-- the sum of C_k X_k from k on: the least and the greatest that each product of ends can be
abbrev pub sum_low : (ℕ → Ival62) → ℕ → List Ival62 → ℤ
sum_low row k [] = pos 0
sum_low row k (c ∷ cs) = least4 c.lo c.hi (row k).lo (row k).hi +ℤ sum_low row (suc k) cs

abbrev pub sum_high : (ℕ → Ival62) → ℕ → List Ival62 → ℤ
sum_high row k [] = pos 0
sum_high row k (c ∷ cs) = greatest4 c.lo c.hi (row k).lo (row k).hi +ℤ sum_high row (suc k) cs
