-- The intervals of a span hold the exact position and velocity at each of its times, and their changes.
use Rattle.std.proofs.Common.{◌≡◌, ℕ, suc, ◌+◌, ◌-◌, ◌*◌, ◌^◌, arith, sym, subst, length, ℤ, pos, negsuc, ◌*ℤ◌, ◌≤ℤ◌, ◌<ℤ◌}
use Rattle.std.proofs.lemmas.Int.{ints}
use Rattle.spec_intervals.specs.Fraction.{Holds, fraction}
use Rattle.spec_intervals.specs.Interval.{interval}
use Rattle.spec_chebyshev.specs.Polynomials.{cleared_t}
use Rattle.spec_numbers.specs.Numbers.{power}
use Rattle.spec_numbers.proofs.Order.{lin}
use Rattle.spec_intervals.proofs.Holding.{Holds-narrowed}
use Rattle.spec_chebyshev.specs.declared.ends.Ival62.{Ival62}
use Rattle.spec_chebyshev.specs.Differences.{IsArgument}
use Rattle.spec_chebyshev.specs.Rows.{ends, t_row, HoldsIn}
use Rattle.spec_chebyshev.proofs.Arguments.{HoldsIn-argument}
use Rattle.spec_chebyshev.proofs.RowLaws.{HoldsIn-t}
use Rattle.spec_ephemeris.specs.Series.{Series, argument_at, cleared_sum, position}
use Rattle.spec_motions.specs.Sums.{sum_low, sum_high}
use Rattle.spec_motions.specs.Enclosures.{IsSeries, IsSpanOf, arguments, coefficients_of, position_over, position_interval}
use Rattle.spec_numbers.proofs.Naturals.{power-pos}
use Rattle.spec_motions.proofs.HeldSums.{HoldsIn-sum}

-- ---- the argument of a time of the span
module _ (s : Series) (a b t : ℤ) (is : IsSeries s) (span : IsSpanOf s a b) (from : a ≤ℤ t) (to : t ≤ℤ b) where
  pub long : pos 0 <ℤ pos s.duration
  long = let p = is.long in omega (arith, ints)

  pub IsArgument-at : IsArgument (argument_at s t) (pos s.duration)
  IsArgument-at =
      let p = span.from in
      let q = span.to in
      record { positive = long; low = omega (arith, ints); high = omega (arith, ints) }

  pub HoldsIn-at : HoldsIn 60 (arguments s a b) (argument_at s t) (pos s.duration)
  HoldsIn-at = HoldsIn-argument (argument_at s a) (argument_at s b) (argument_at s t) (pos s.duration) long (omega (arith, ints)) (omega (arith, ints))

-- ---- what is held in fixed units
once : (d : ℕ) → 1 * d ≡ d
once d = omega arith

-- what is held in units of 2^-(j + 1) is held at the exponent -(j + 1)
pub Holds-units : (j : ℕ) (e : Ival62) (n : ℤ) (d : ℕ) → HoldsIn (suc j) e n (pos d) → Holds (interval e.lo e.hi (negsuc j)) (fraction n d)
Holds-units j e n d h = record {
  low = subst (λ (m : ℕ). (e.lo *ℤ pos m) ≤ℤ (n *ℤ pos (2 ^ suc j))) (sym (once d)) h.low;
  high = subst (λ (m : ℕ). (n *ℤ pos (2 ^ suc j)) ≤ℤ (e.hi *ℤ pos m)) (sym (once d)) h.high;
}

-- ---- what is held over 10^140 and a power of the duration
pub HoldsIn-denominator : (u : ℕ) (e : Ival62) (n : ℤ) (d k : ℕ) → HoldsIn u e n (pos (10 ^ 140) *ℤ power (pos d) k) → HoldsIn u e n (pos (10 ^ 140 * d ^ k))
HoldsIn-denominator u e n d k h = subst (λ (z : ℤ). HoldsIn u e n (pos (10 ^ 140) *ℤ z)) (power-pos d k) h

pub Holds-position : (s : Series) (a b t : ℤ) → IsSeries s → IsSpanOf s a b → a ≤ℤ t → t ≤ℤ b → Holds (position_interval s a b) (position s t)
unfolding position_over
Holds-position s a b t is span from to =
    let x = arguments s a b in
    let u = argument_at s t in
    let l = pos s.duration in
    let n : 0 + length s.coefficients ≡ suc (length s.coefficients - 1) = let p = is.some in omega (arith, p) in
    let held = HoldsIn-sum 60 (t_row x) (cleared_t u l) l (omega (arith, lin)) (HoldsIn-t x u l (IsArgument-at s a b t is span from to) (HoldsIn-at s a b t is span from to)) s.coefficients 0 (length s.coefficients - 1) n is.bodies in
    Holds-narrowed (sum_low (t_row x) 0 (coefficients_of s)) (sum_high (t_row x) 0 (coefficients_of s)) (negsuc 83) (fraction (cleared_sum (cleared_t u l) l 0 s.coefficients) (10 ^ 140 * s.duration ^ (length s.coefficients - 1)))
    (Holds-units 83 (ends (sum_low (t_row x) 0 (coefficients_of s)) (sum_high (t_row x) 0 (coefficients_of s))) (cleared_sum (cleared_t u l) l 0 s.coefficients) (10 ^ 140 * s.duration ^ (length s.coefficients - 1))
    (HoldsIn-denominator 84 (ends (sum_low (t_row x) 0 (coefficients_of s)) (sum_high (t_row x) 0 (coefficients_of s))) (cleared_sum (cleared_t u l) l 0 s.coefficients) s.duration (length s.coefficients - 1) held))
