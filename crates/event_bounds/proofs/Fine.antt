-- Where exponents alone tell that a bound's range keeps its unit.
use Rattle.std.proofs.Common.{◌≡◌, ◌∙◌, ℕ, ◌+◌, ◌≤◌, arith, refl, ℤ, pos, negsuc, ◌+ℤ◌, ◌-ℤ◌, neg_ℤ, ◌≤ℤ◌, Bool, true, false, unsigned_abs}
use Rattle.std.specs.Prelude.{if◌then◌else◌}
use Rattle.std.specs.Int.{int_gap, int_max}
use Rattle.std.proofs.lemmas.Int.{ints, clamps}
use Rattle.spec_numbers.proofs.Order.{lin}
use Rattle.spec_numbers.proofs.Floor.{floor_div-one, ceil_div-one}
use Rattle.spec_numbers.proofs.Sizes.{sum_size}
use Rattle.spec_intervals.specs.Interval.{Interval, end_limit, is_zero, narrow, product, raised, settled}
use Rattle.spec_intervals.specs.Enclosure.{IsSpan, IsWithin, offsets}
use Rattle.spec_intervals.proofs.Exponents.{IsBetween, narrow-between, product-between}
use Rattle.spec_intervals.proofs.Offsets.{narrow-small, offsets-within}
use Rattle.spec_models.specs.Bounds.{at_exponent, coarse_sum, coarsened, raised_sum, reached}
use Rattle.spec_bounds.proofs.Exponents.{raised_high, raised_low}
use Rattle.event_bounds.specs.Fine.{IsFine}

-- ---- an interval that is asked for no coarser unit stays as it is
gap_none : (a b : ℤ) → b ≤ℤ a → int_gap a b ≡ 0
gap_none (pos a) (pos b) p = omega (arith, lin)
gap_none (pos a) (negsuc b) p = refl
gap_none (negsuc a) (pos b) p = absurd (omega (arith, lin))
gap_none (negsuc a) (negsuc b) p = omega (arith, lin)

plus_none : (a : ℤ) → a +ℤ pos 0 ≡ a
plus_none a = omega (arith, ints)

-- narrowing keeps what is no zero
module _ (x : Interval) (some : is_zero x ≡ false) where
  settled_some : settled x.lo x.hi x.s ≡ x
  unfolding settled
  settled_some = rw some refl

pub kept_unit : (n : ℕ) (s : ℤ) (x : Interval) → IsWithin n x → is_zero x ≡ false → s ≤ℤ x.s → coarsened s x ≡ x
unfolding coarsened
kept_unit n s x p some below =
    let none = gap_none x.s s below in
    (λ i. narrow (raised (none i) x).lo (raised (none i) x).hi (raised (none i) x).s)
    ∙ (λ i. narrow (floor_div-one x.lo i) (ceil_div-one x.hi i) (plus_none x.s i))
    ∙ narrow-small x.lo x.hi x.s p.lo_small p.hi_small
    ∙ settled_some x some

-- ---- how far up the exponent goes of what is reached
module _ (n l h : ℕ) (x y : Interval) (p : IsWithin n x) (some : is_zero x ≡ false) (q : IsBetween l h y) (top : x.s ≤ℤ pos h) where
  own : IsWithin (n + l + h) y
  own = let low = q.low in let high = q.high in record { lo_small = q.lo_small; hi_small = q.hi_small; exponent = omega (arith, ints, low, high) }

  raised_top : (raised_sum x y).s ≤ℤ pos (h + 1)
  unfolding raised_sum
  raised_top =
      let e = p.exponent in
      let high = q.high in
      let lows = sum_size (at_exponent (int_max x.s y.s) x).lo (at_exponent (int_max x.s y.s) y).lo end_limit end_limit (raised_low (int_max x.s y.s) n x p) (raised_low (int_max x.s y.s) (n + l + h) y own) in
      let highs = sum_size (at_exponent (int_max x.s y.s) x).hi (at_exponent (int_max x.s y.s) y).hi end_limit end_limit (raised_high (int_max x.s y.s) n x p) (raised_high (int_max x.s y.s) (n + l + h) y own) in
      (narrow-between 1 n (h + 1) _ _ (int_max x.s y.s) (omega (arith, lows)) (omega (arith, highs)) (lowest x.s y.s e) (highest x.s y.s top high)).high
    where
      lowest : (a b : ℤ) → unsigned_abs a ≤ n → neg_ℤ (pos n) ≤ℤ int_max a b
      lowest a b e = omega (arith, ints, clamps)

      highest : (a b : ℤ) → a ≤ℤ pos h → b ≤ℤ pos h → (int_max a b +ℤ pos 1) ≤ℤ pos (h + 1)
      highest a b e f = omega (arith, ints, clamps)

  pub sum_top : (coarse_sum x y).s ≤ℤ pos (h + 1)
  unfolding coarse_sum
  sum_top = rw some (by (is_zero y))
    where
      by : (z : Bool) → (if z then x else raised_sum x y).s ≤ℤ pos (h + 1)
      by true = omega (arith, ints, top)
      by false = raised_top

-- ---- a range that is fine beside its step
module _ (n : ℕ) (a b : ℤ) (span : IsSpan a b) (x step : Interval) (p : IsWithin n x) (q : IsWithin n step) (fine : IsFine x step) where
  distances : IsWithin 0 (offsets a b)
  distances = offsets-within a b span

  height : ℕ
  height = unsigned_abs (x.s +ℤ pos 58)

  high : pos height ≡ x.s +ℤ pos 58
  unfolding height
  high = let low = fine.low in omega (arith, ints, low)

  stepped : IsBetween n height (product step (offsets a b))
  stepped =
      let e = q.exponent in
      let far = fine.far in
      product-between step (offsets a b) n height (record { lo_small = q.lo_small; hi_small = q.hi_small }) (record { lo_small = distances.lo_small; hi_small = distances.hi_small })
      (omega (arith, ints, e))
      (omega (arith, ints, high, far))

  pub kept_range : coarsened ((reached a b x step).s -ℤ pos 60) x ≡ x
  kept_range =
      let top = sum_top n n height x (product step (offsets a b)) p fine.some stepped (omega (arith, ints, high)) in
      kept_unit n ((reached a b x step).s -ℤ pos 60) x p fine.some (omega (arith, ints, top, high))
