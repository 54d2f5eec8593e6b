-- An interval on which nothing is added is met by itself: what `constant` owes, over plain intervals.
use Rattle.std.proofs.Common.{◌≡◌, ◌≤◌, ◌-◌, ◌^◌, ◌&&◌, arith, refl, ap, ◌∙◌, sym, ℕ, zero, suc, ℤ, pos, negsuc, neg_ℤ, ◌+ℤ◌, ◌*ℤ◌, Bool, true, false, if◌then◌else◌, min, unsigned_abs}
use Rattle.std.proofs.Math.IntN.{zero-*ℤ, *ℤ-one}
use Rattle.std.proofs.Math.Nat.{zero-div}
use Rattle.std.proofs.lemmas.Int.{clamps, ints}
use Rattle.std.specs.Int.{int_min, int_max, int_gap}
use lib.Signed.{lt_z, le_z}
use Rattle.spec_numbers.specs.Numbers.{floor_div, ceil_div}
use Rattle.spec_numbers.proofs.Floor.{floor_div-one, ceil_div-one}
use Rattle.spec_numbers.proofs.Order.{lin}
use Rattle.spec_intervals.specs.Interval.{Interval, interval, zero_interval, zero_end, is_zero, end_limit, settled, narrow, sum, meet, meet_up}
use Rattle.spec_intervals.specs.Enclosure.{IsWithin, offsets, centred, enclosure, constant_of}
use Rattle.spec_intervals.proofs.Offsets.{narrow-small}
use Rattle.spec_intervals.proofs.Narrow.{narrow_of_zero}
use Rattle.spec_expressions.proofs.Zeros.{product_of_zero}

either-way : (b : Bool) (x : Interval) → (if b then x else x) ≡ x
either-way true x = refl
either-way false x = refl

-- ---- a sum with 0
sum-zero : (x : Interval) → sum x zero_interval ≡ (if is_zero x then zero_interval else x)
unfolding sum
sum-zero x = refl

-- ---- an interval meets itself, and 0 meets 0, whatever their exponents
int_gap-self : (z : ℤ) → int_gap z z ≡ 0
int_gap-self (pos n) = omega arith
int_gap-self (negsuc n) = omega arith

meet_up-self : (x : Interval) → meet_up x x ≡ narrow x.lo x.hi x.s
unfolding meet_up lib.IntN.one
meet_up-self x =
    let l : x.lo *ℤ pos 1 ≡ x.lo = *ℤ-one x.lo in
    let h : x.hi *ℤ pos 1 ≡ x.hi = *ℤ-one x.hi in
    let e : x.s +ℤ pos 0 ≡ x.s = omega (arith, lin) in
    let top : int_max x.lo x.lo ≡ x.lo = omega (arith, ints, clamps) in
    let bottom : int_min x.hi x.hi ≡ x.hi = omega (arith, ints, clamps) in
    rw (int_gap-self x.s, floor_div-one x.lo, ceil_div-one x.hi, l, h, top, bottom, e)

narrow-zeros : (a b c d s : ℤ) → a ≡ pos 0 → b ≡ pos 0 → c ≡ pos 0 → d ≡ pos 0 → narrow (int_max a b) (int_min c d) s ≡ zero_interval
narrow-zeros a b c d s e f g h = rw (e, f, g, h) (narrow_of_zero s)

meet_up-zero : (s t : ℤ) → meet_up (interval (pos 0) (pos 0) s) (interval (pos 0) (pos 0) t) ≡ zero_interval
unfolding meet_up
meet_up-zero s t =
    let k = 2 ^ (int_gap s t - 60) in
    let m = pos (2 ^ min (int_gap s t) 60) in
    narrow-zeros (floor_div (pos 0) k) (pos 0 *ℤ m) (ceil_div (pos 0) k) (pos 0 *ℤ m) (s +ℤ pos (int_gap s t - 60)) (ap pos (zero-div k)) (zero-*ℤ m) (ap (λ n. neg_ℤ (pos n)) (zero-div k)) (zero-*ℤ m)

settled-other : (x : Interval) → is_zero x ≡ false → settled x.lo x.hi x.s ≡ x
unfolding settled
settled-other x e = rw e

meet-self : (x : Interval) → is_zero x ≡ false → unsigned_abs x.lo ≤ end_limit → unsigned_abs x.hi ≤ end_limit → meet x x ≡ x
unfolding meet
meet-self x e p q =
    either-way (le_z x.s x.s) (meet_up x x) ∙ meet_up-self x ∙ narrow-small x.lo x.hi x.s p q ∙ settled-other x e

meet-zero : (lo hi s : ℤ) → (zero_end lo && zero_end hi) ≡ true → meet (interval lo hi s) zero_interval ≡ zero_interval
unfolding meet
meet-zero (pos zero) (pos zero) s e =
    rw (meet_up-zero s (pos 0), meet_up-zero (pos 0) s) (either-way (le_z s (pos 0)) zero_interval)
meet-zero (pos zero) (pos (suc n)) s e = cc
meet-zero (pos zero) (negsuc n) s e = cc
meet-zero (pos (suc n)) hi s e = cc
meet-zero (negsuc n) hi s e = cc

meet-sum_zero : (x : Interval) → unsigned_abs x.lo ≤ end_limit → unsigned_abs x.hi ≤ end_limit → meet x (sum x zero_interval) ≡ sum x zero_interval
meet-sum_zero x p q = rw (sum-zero x) (by (is_zero x) refl)
  where
    by : (b : Bool) → is_zero x ≡ b → meet x (if b then zero_interval else x) ≡ (if b then zero_interval else x)
    by true e = meet-zero x.lo x.hi x.s e
    by false e = meet-self x e p q

-- ---- the enclosure of a constant
pub constant-wide : (a b : ℤ) → lt_z a b ≡ true → (n : ℕ) (x z r : Interval) → IsWithin n x → z ≡ zero_interval → r ≡ sum x z → record { mid = x; range = r; step = z } ≡ constant_of a b x
unfolding constant_of enclosure centred
constant-wide a b h n x z r w e f =
    rw (h, f, e, product_of_zero (offsets a b)) (λ i. record { mid = x; range = sym (meet-sum_zero x w.lo_small w.hi_small) i; step = zero_interval })
