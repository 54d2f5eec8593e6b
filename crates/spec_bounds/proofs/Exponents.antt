-- Within which limits the rules on bounds keep exponents. A bound is made from a range that is up to 3 above its step.
use Rattle.std.proofs.Common.{ℕ, ◌+◌, ◌*◌, ◌^◌, ◌≤◌, arith, ℤ, pos, negsuc, ◌+ℤ◌, ◌-ℤ◌, neg_ℤ, ◌≤ℤ◌, Bool, true, false, unsigned_abs}
use Rattle.std.specs.Prelude.{if◌then◌else◌}
use Rattle.std.specs.Int.{int_gap, int_max}
use Rattle.std.proofs.lemmas.Int.{ints, clamps}
use Rattle.std.proofs.lemmas.Nat.{mul-le, pow_pos}
use Rattle.std.proofs.Math.Nat.{one-le-pow}
use Rattle.spec_numbers.proofs.Order.{lin}
use Rattle.spec_numbers.proofs.Floor.{floor_div-small, ceil_div-small}
use Rattle.spec_numbers.proofs.Sizes.{sum_size, unsigned_abs-neg}
use Rattle.spec_intervals.specs.Interval.{Interval, end_limit, is_zero, negated, product, signed_square, zero_interval}
use Rattle.spec_intervals.specs.Enclosure.{IsSpan, IsWithin, offsets, twice_size}
use Rattle.spec_intervals.proofs.Exponents.{IsWithin-more, between-within, narrow-within, product-within, signed_square-within, twice_size-within, zero-between}
use Rattle.spec_intervals.proofs.Offsets.{offsets-within}
use Rattle.spec_models.specs.Bounds.{Bound, at_exponent, bound, coarse_difference, coarse_sum, coarsened, constant_bound, difference_bound, product_bound, raised_sum, reached, signed_square_bound, sum_bound}
use Rattle.spec_bounds.specs.Limits.{IsBoundWithin}

-- ---- one exponent for two
gap_keeps : (a b c : ℤ) → a ≤ℤ c → b ≤ℤ c → (a +ℤ pos (int_gap a b)) ≤ℤ c
gap_keeps (pos a) (pos b) c p q = omega (arith, lin)
gap_keeps (pos a) (negsuc b) c p q = omega (arith, lin)
gap_keeps (negsuc a) (pos b) c p q = omega (arith, lin)
gap_keeps (negsuc a) (negsuc b) c p q = omega (arith, lin)

under : (m a k : ℕ) → a ≤ m → a ≤ m * 2 ^ k
under m a k p = let more : a * 1 ≤ m * 2 ^ k = mul-le a 1 m (2 ^ k) p (one-le-pow k 2 (omega arith)) in omega (arith, more)

module _ (s : ℤ) (n : ℕ) (x : Interval) (p : IsWithin n x) where
  pub raised_low : unsigned_abs (at_exponent s x).lo ≤ end_limit
  raised_low = floor_div-small x.lo (2 ^ int_gap x.s s) end_limit (pow_pos (int_gap x.s s)) (under end_limit (unsigned_abs x.lo) (int_gap x.s s) p.lo_small)

  pub raised_high : unsigned_abs (at_exponent s x).hi ≤ end_limit
  raised_high = ceil_div-small x.hi (2 ^ int_gap x.s s) end_limit (pow_pos (int_gap x.s s)) (under end_limit (unsigned_abs x.hi) (int_gap x.s s) p.hi_small)

  -- a coarser unit is no coarser than it is asked to be, or was
  pub coarsened-within : (m : ℕ) → n ≤ m → s ≤ℤ pos m → IsWithin m (coarsened s x)
  unfolding coarsened
  coarsened-within m more asked =
      let e = p.exponent in
      narrow-within 0 m (at_exponent s x).lo (at_exponent s x).hi (at_exponent s x).s
      (omega (arith, raised_low)) (omega (arith, raised_high))
      (low x.s (int_gap x.s s) (omega (arith, ints, e, more)))
      (same (x.s +ℤ pos (int_gap x.s s)) (pos m) (gap_keeps x.s s (pos m) (omega (arith, ints, e, more)) asked))
    where
      low : (a : ℤ) (k : ℕ) → neg_ℤ (pos m) ≤ℤ a → neg_ℤ (pos m) ≤ℤ (a +ℤ pos k)
      low a k h = omega (arith, ints)

      same : (a c : ℤ) → a ≤ℤ c → (a +ℤ pos 0) ≤ℤ c
      same a c h = omega (arith, lin)

-- ---- sums and differences
module _ (n : ℕ) (x y : Interval) (p : IsWithin n x) (q : IsWithin n y) where
  raised_sum-within : IsWithin (n + 1) (raised_sum x y)
  unfolding raised_sum
  raised_sum-within =
      let e = p.exponent in
      let f = q.exponent in
      let lows = sum_size (at_exponent (int_max x.s y.s) x).lo (at_exponent (int_max x.s y.s) y).lo end_limit end_limit (raised_low (int_max x.s y.s) n x p) (raised_low (int_max x.s y.s) n y q) in
      let highs = sum_size (at_exponent (int_max x.s y.s) x).hi (at_exponent (int_max x.s y.s) y).hi end_limit end_limit (raised_high (int_max x.s y.s) n x p) (raised_high (int_max x.s y.s) n y q) in
      narrow-within 1 (n + 1) _ _ (int_max x.s y.s) (omega (arith, lows)) (omega (arith, highs)) (low x.s y.s e f) (high x.s y.s e f)
    where
      low : (a b : ℤ) → unsigned_abs a ≤ n → unsigned_abs b ≤ n → neg_ℤ (pos (n + 1)) ≤ℤ int_max a b
      low a b e f = omega (arith, ints, clamps)

      high : (a b : ℤ) → unsigned_abs a ≤ n → unsigned_abs b ≤ n → (int_max a b +ℤ pos 1) ≤ℤ pos (n + 1)
      high a b e f = omega (arith, ints, clamps)

  pub coarse_sum-within : IsWithin (n + 1) (coarse_sum x y)
  unfolding coarse_sum
  coarse_sum-within = by (is_zero x) (is_zero y)
    where
      by : (a b : Bool) → IsWithin (n + 1) (if a then y else (if b then x else raised_sum x y))
      by true b = IsWithin-more n (n + 1) y (omega arith) q
      by false true = IsWithin-more n (n + 1) x (omega arith) p
      by false false = raised_sum-within

pub negated-within : (n : ℕ) (y : Interval) → IsWithin n y → IsWithin n (negated y)
negated-within n y q = record { lo_small = rw (unsigned_abs-neg y.hi) q.hi_small; hi_small = rw (unsigned_abs-neg y.lo) q.lo_small; exponent = q.exponent }

pub coarse_difference-within : (n : ℕ) (x y : Interval) → IsWithin n x → IsWithin n y → IsWithin (n + 1) (coarse_difference x y)
coarse_difference-within n x y p q = coarse_sum-within n x (negated y) p (negated-within n y q)

-- ---- bounds: the step is within n, and the range within 3 more
pub record IsReached (n : ℕ) (p : Bound) : Type 0 where
  pub range : IsWithin (n + 3) p.range
  pub step : IsWithin n p.step

pub reached-more : (m n : ℕ) (p : Bound) → m ≤ n → IsReached m p → IsReached n p
reached-more m n p few is = record { range = IsWithin-more (m + 3) (n + 3) p.range (omega (arith, few)) is.range; step = IsWithin-more m n p.step few is.step }

pub reached-within : (m n : ℕ) (p : Bound) → m + 3 ≤ n → IsReached m p → IsBoundWithin n p
reached-within m n p few is = record { range = IsWithin-more (m + 3) n p.range few is.range; step = IsWithin-more m n p.step (omega (arith, few)) is.step }

pub within-reached : (n : ℕ) (p : Bound) → IsBoundWithin n p → IsReached n p
within-reached n p is = record { range = IsWithin-more n (n + 3) p.range (omega arith) is.range; step = is.step }

zero-within : (n : ℕ) → IsWithin n zero_interval
zero-within n = between-within 0 0 n zero_interval (omega arith) (omega arith) (zero-between 0 0)

module _ (a b : ℤ) (span : IsSpan a b) where
  pub stepped-within : (n : ℕ) (step : Interval) → IsWithin n step → IsWithin (n + 62) (product step (offsets a b))
  stepped-within n step q =
      IsWithin-more (n + 0 + 62) (n + 62) _ (omega arith) (product-within step (offsets a b) n 0 q (offsets-within a b span))

  pub reached_by-within : (n : ℕ) (range step : Interval) → IsWithin (n + 62) range → IsWithin n step → IsWithin (n + 63) (reached a b range step)
  reached_by-within n range step p q =
      IsWithin-more (n + 62 + 1) (n + 63) _ (omega arith) (coarse_sum-within (n + 62) range (product step (offsets a b)) p (stepped-within n step q))

  pub bound-reached : (n : ℕ) (range step : Interval) → IsWithin (n + 3) range → IsWithin n step → IsReached n (bound a b range step)
  unfolding bound
  bound-reached n range step p q =
      let r = (reached_by-within n range step (IsWithin-more (n + 3) (n + 62) range (omega arith) p) q).exponent in
      record { range = coarsened-within ((reached a b range step).s -ℤ pos 60) (n + 3) range p (n + 3) (omega arith) (omega (arith, ints, r)); step = q }

  pub constant-reached : (n : ℕ) (c : Interval) → IsWithin n c → IsReached n (constant_bound a b c)
  constant-reached n c p = bound-reached n c zero_interval (IsWithin-more n (n + 3) c (omega arith) p) (zero-within n)

  module _ (n : ℕ) (p q : Bound) (f : IsReached n p) (g : IsReached n q) where
    pub sum-reached : IsReached (n + 1) (sum_bound a b p q)
    sum-reached =
        bound-reached (n + 1) (coarse_sum p.range q.range) (coarse_sum p.step q.step)
        (IsWithin-more (n + 3 + 1) (n + 1 + 3) _ (omega arith) (coarse_sum-within (n + 3) p.range q.range f.range g.range))
        (coarse_sum-within n p.step q.step f.step g.step)

    pub difference-reached : IsReached (n + 1) (difference_bound a b p q)
    difference-reached =
        bound-reached (n + 1) (coarse_difference p.range q.range) (coarse_difference p.step q.step)
        (IsWithin-more (n + 3 + 1) (n + 1 + 3) _ (omega arith) (coarse_difference-within (n + 3) p.range q.range f.range g.range))
        (coarse_difference-within n p.step q.step f.step g.step)

  pub product-reached : (m n : ℕ) (p q : Bound) → IsReached m p → IsReached n q → IsReached (m + n + 66) (product_bound a b p q)
  product-reached m n p q f g =
      bound-reached (m + n + 66) (product p.range q.range) (coarse_sum (product p.range q.step) (product q.range p.step))
      (IsWithin-more (m + 3 + (n + 3) + 62) (m + n + 66 + 3) _ (omega arith) (product-within p.range q.range (m + 3) (n + 3) f.range g.range))
      (IsWithin-more (m + n + 65 + 1) (m + n + 66) _ (omega arith)
      (coarse_sum-within (m + n + 65) (product p.range q.step) (product q.range p.step)
      (IsWithin-more (m + 3 + n + 62) (m + n + 65) _ (omega arith) (product-within p.range q.step (m + 3) n f.range g.step))
      (IsWithin-more (n + 3 + m + 62) (m + n + 65) _ (omega arith) (product-within q.range p.step (n + 3) m g.range f.step))))

  pub signed_square-reached : (n : ℕ) (p : Bound) → IsReached n p → IsReached (n + n + 66) (signed_square_bound a b p)
  signed_square-reached n p f =
      bound-reached (n + n + 66) (signed_square p.range) (product (twice_size p.range) p.step)
      (IsWithin-more (n + 3 + (n + 3) + 62) (n + n + 66 + 3) _ (omega arith) (signed_square-within p.range (n + 3) f.range))
      (IsWithin-more (n + 3 + 1 + n + 62) (n + n + 66) _ (omega arith) (product-within (twice_size p.range) p.step (n + 3 + 1) n (twice_size-within p.range (n + 3) f.range) f.step))
