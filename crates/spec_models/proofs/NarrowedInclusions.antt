-- Narrowing keeps inclusion: the halvings that are enough for the outer interval are enough for what lies in it.
use Rattle.std.proofs.Common.{◌≡◌, ℕ, zero, suc, ◌+◌, ◌^◌, ◌<◌, ◌≤◌, arith, refl, ℤ, pos, negsuc, ◌*ℤ◌, neg_ℤ, ◌≤ℤ◌, true, ◌&&◌, unsigned_abs, inl, inr}
use Rattle.std.proofs.lemmas.Nat.{pow_pos}
use Rattle.std.proofs.lemmas.Int.{ints}
use Rattle.spec_numbers.specs.Numbers.{floor_div, ceil_div}
use Rattle.spec_numbers.proofs.Order.{lin, le-mul_cancel}
use Rattle.spec_numbers.proofs.Floor.{ordered_quotients}
use Rattle.spec_numbers.proofs.Booleans.{both_true}
use Rattle.spec_intervals.specs.Interval.{Interval, interval, zero_interval, raised, is_zero, end_limit, zero_end, fits_after, narrow_shift, is_small, settled, narrow_by, narrow}
use Rattle.spec_intervals.proofs.Narrow.{zero_ends, narrow_of_zero, is_small-from, is_small-both, narrow_shift-fits, narrow_shift-le}
use Rattle.spec_models.specs.Inclusion.{Spans, HoldsZero, Includes}
use Rattle.spec_models.proofs.Spans.{Spans-outer, Spans-raised, floor_div-greatest, ceil_div-least, low-outer, high-outer}

-- ---- 0
pub zero_alone : (lo hi : ℤ) → lo ≡ pos 0 → hi ≡ pos 0 → (zero_end lo && zero_end hi) ≡ true
zero_alone lo hi p q = rw (p, q) refl

-- what spans 0 alone holds 0
pub spans_zero : (y x : Interval) → is_zero x ≡ true → Spans y x → HoldsZero y x
spans_zero y x z s =
    let e = zero_ends x.lo x.hi z in
    record {
      zero = z;
      low = below y.lo (2 ^ s.gap) (pow_pos s.gap) (rw e.0 at s.low);
      high = above y.hi (2 ^ s.gap) (pow_pos s.gap) (rw e.1 at s.high);
    }
  where
    below : (w : ℤ) (d : ℕ) → 0 < d → (w *ℤ pos d) ≤ℤ pos 0 → w ≤ℤ pos 0
    below w d p h = le-mul_cancel w (pos 0) d p (omega (arith, ints))

    above : (w : ℤ) (d : ℕ) → 0 < d → pos 0 ≤ℤ (w *ℤ pos d) → pos 0 ≤ℤ w
    above w d p h = le-mul_cancel (pos 0) w d p (omega (arith, ints))

pub holds_zero : (y x : Interval) → is_zero x ≡ true → Includes y x → HoldsZero y x
holds_zero y x z (inl s) = spans_zero y x z s
holds_zero y x z (inr h) = h

-- ends rounded outward reach no less far past 0
pub zero_down : (z : ℤ) (d : ℕ) → 0 < d → z ≤ℤ pos 0 → floor_div z d ≤ℤ pos 0
zero_down (pos zero) d p h = omega (arith, ints)
zero_down (pos (suc n)) d p h = absurd (omega (arith, ints))
zero_down (negsuc n) d p h = omega (arith, ints)

pub zero_up : (z : ℤ) (d : ℕ) → 0 < d → pos 0 ≤ℤ z → pos 0 ≤ℤ ceil_div z d
zero_up z d p h = let a = zero_down (neg_ℤ z) d p (omega (arith, lin)) in omega (arith, lin)

pub Includes-raised : (k : ℕ) (y x : Interval) → Includes y x → Includes (raised k y) x
Includes-raised k y x (inl s) = inl (Spans-outer k y x s)
Includes-raised k y x (inr h) =
    let low = zero_down y.lo (2 ^ k) (pow_pos k) h.low in
    let high = zero_up y.hi (2 ^ k) (pow_pos k) h.high in
    inr (record { zero = h.zero; low = low; high = high })

-- ---- where both ends are 0, the exponent is 0
settled_either : (P : Interval → Type 0) (lo hi s : ℤ) → (lo ≡ pos 0 → hi ≡ pos 0 → P zero_interval) → P (interval lo hi s)
    → P (settled lo hi s)
unfolding settled
settled_either P (pos zero) (pos zero) s z n = z refl refl
settled_either P (pos zero) (pos (suc m)) s z n = n
settled_either P (pos zero) (negsuc m) s z n = n
settled_either P (pos (suc m)) hi s z n = n
settled_either P (negsuc m) hi s z n = n

-- what lies in 0 alone is 0 alone, if its ends are in order
only_zero : (y x : Interval) → x.lo ≤ℤ x.hi → y.lo ≡ pos 0 → y.hi ≡ pos 0 → Includes y x → HoldsZero zero_interval x
only_zero y x o p q (inr h) = record { zero = h.zero; low = omega (arith, lin); high = omega (arith, lin) }
only_zero y x o p q (inl s) =
    let a : (pos 0 *ℤ pos (2 ^ s.gap)) ≤ℤ x.lo = rw p at s.low in
    let b : x.hi ≤ℤ (pos 0 *ℤ pos (2 ^ s.gap)) = rw q at s.high in
    let c : x.lo ≡ pos 0 = omega (arith, ints) in
    let d : x.hi ≡ pos 0 = omega (arith, ints) in
    record { zero = zero_alone x.lo x.hi c d; low = omega (arith, lin); high = omega (arith, lin) }

settled-outer : (y x : Interval) → x.lo ≤ℤ x.hi → Includes y x → Includes (settled y.lo y.hi y.s) x
settled-outer y x o h = settled_either (λ t. Includes t x) y.lo y.hi y.s (λ p q. inr (only_zero y x o p q h)) h

-- an exponent of 0 does as well as any other
pub zero_moved : (y x : Interval) → HoldsZero y x → HoldsZero y zero_interval
zero_moved y x h = record { zero = refl; low = h.low; high = h.high }

settled-inner : (y x : Interval) → Includes y x → Includes y (settled x.lo x.hi x.s)
settled-inner y x h =
    settled_either (λ t. Includes y t) x.lo x.hi x.s (λ p q. inr (zero_moved y x (holds_zero y x (zero_alone x.lo x.hi p q) h))) h

-- ---- narrowing
-- Without ends in order this is false: x from 5 to -5 at the exponent 3 lies in 0 alone at the exponent 5, which is narrowed
-- to 0 alone at the exponent 0, in a unit that is finer than that of x.
pub Includes-outer : (y x : Interval) → x.lo ≤ℤ x.hi → Includes y x → Includes (narrow y.lo y.hi y.s) x
unfolding narrow narrow_by
Includes-outer y x o h = settled-outer _ x o (Includes-raised (narrow_shift y.lo y.hi) y x h)

pub narrow-zero : (lo hi s : ℤ) → lo ≡ pos 0 → hi ≡ pos 0 → narrow lo hi s ≡ zero_interval
narrow-zero lo hi s p q = rw (p, q) (narrow_of_zero s)

-- a number between two small ones is small
between_small : (a b z : ℤ) (m : ℕ) → unsigned_abs a ≤ m → unsigned_abs b ≤ m → a ≤ℤ z → z ≤ℤ b → unsigned_abs z ≤ m
between_small a b z m p q r s = omega (arith, ints)

both_small : (a b z w : ℤ) → unsigned_abs a ≤ end_limit → unsigned_abs b ≤ end_limit → a ≤ℤ z → z ≤ℤ w → w ≤ℤ b
    → (is_small z && is_small w) ≡ true
both_small a b z w p q r s t =
    let low = between_small a b z end_limit p q r (omega (arith, lin)) in
    let high = between_small a b w end_limit p q (omega (arith, lin)) t in
    both_true _ _ (is_small-from z low) (is_small-from w high)

-- l halvings are enough for y, so l more than the gap are enough for x
fits_within : (l : ℕ) (y x : Interval) (s : Spans y x) → x.lo ≤ℤ x.hi → fits_after l y.lo y.hi ≡ true
    → fits_after (l + s.gap) x.lo x.hi ≡ true
fits_within l y x s o t =
    let small = is_small-both (floor_div y.lo (2 ^ l)) (ceil_div y.hi (2 ^ l)) t in
    let positive = pow_pos (l + s.gap) in
    let low = floor_div-greatest (floor_div y.lo (2 ^ l)) x.lo _ positive (low-outer y.lo x.lo s.gap l s.low) in
    let high = ceil_div-least (ceil_div y.hi (2 ^ l)) x.hi _ positive (high-outer y.hi x.hi s.gap l s.high) in
    let between = ordered_quotients x.lo x.hi _ positive o in
    both_small _ _ (floor_div x.lo (2 ^ (l + s.gap))) (ceil_div x.hi (2 ^ (l + s.gap))) small.0 small.1 low between high

-- y is halved l times, and x no more often than brings it to the unit of y
narrow_by-included : (l k : ℕ) (y x : Interval) → x.lo ≤ℤ x.hi → (s : Spans y x) → k ≤ l + s.gap
    → Includes (narrow_by l y.lo y.hi y.s) (narrow_by k x.lo x.hi x.s)
unfolding narrow_by
narrow_by-included l k y x o s h =
    let ordered = ordered_quotients x.lo x.hi (2 ^ k) (pow_pos k) o in
    settled-inner _ (raised k x) (settled-outer (raised l y) (raised k x) ordered (inl (Spans-raised l k y x s h)))

narrow_spanned : (y x : Interval) → x.lo ≤ℤ x.hi → Spans y x → Includes (narrow y.lo y.hi y.s) (narrow x.lo x.hi x.s)
unfolding narrow
narrow_spanned y x o s =
    let enough = fits_within (narrow_shift y.lo y.hi) y x s o (narrow_shift-fits y.lo y.hi) in
    narrow_by-included (narrow_shift y.lo y.hi) (narrow_shift x.lo x.hi) y x o s (narrow_shift-le _ x.lo x.hi enough)

pub Includes-narrow : (y x : Interval) → x.lo ≤ℤ x.hi → Includes y x → Includes (narrow y.lo y.hi y.s) (narrow x.lo x.hi x.s)
Includes-narrow y x o (inl s) = narrow_spanned y x o s
Includes-narrow y x o (inr h) =
    let e = zero_ends x.lo x.hi h.zero in
    rw (narrow-zero x.lo x.hi x.s e.0 e.1) (inr (zero_moved _ x (holds_zero _ x h.zero (Includes-outer y x o (inr h)))))
