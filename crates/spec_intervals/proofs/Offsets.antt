-- The times of a span as seen from its middle are small, so narrowing leaves them as they are.
use Rattle.std.proofs.Common.{◌&&◌, ◌≡◌, ◌≤◌, arith, refl, ◌∙◌, ℤ, pos, negsuc, zero, suc, ◌+ℤ◌, ◌-ℤ◌, ◌≤ℤ◌, true, unsigned_abs}
use Rattle.std.proofs.lemmas.Bool.Decides.{nat_tests}
use Rattle.std.proofs.lemmas.Int.{ints}
use Rattle.spec_intervals.specs.Interval.{interval, end_limit, is_small, fits_after, settled, narrow_by, narrow}
use Rattle.spec_numbers.proofs.Order.{lin}
use Rattle.spec_intervals.proofs.Narrow.{narrow-is}
use Rattle.spec_numbers.proofs.Floor.{floor_div-one, ceil_div-one}
use Rattle.spec_intervals.specs.Enclosure.{IsSpan, IsWithin, time_limit, offsets, middle}
use Rattle.spec_intervals.proofs.Centred.{middle_between}

small-test : (a b : ℤ) → unsigned_abs a ≤ end_limit → unsigned_abs b ≤ end_limit → fits_after 0 a b ≡ true
small-test a b p q =
    let e = floor_div-one a in
    let f = ceil_div-one b in
    rw (e, f) (test a b p q)
  where
    test : (a b : ℤ) → unsigned_abs a ≤ end_limit → unsigned_abs b ≤ end_limit → (is_small a && is_small b) ≡ true
    test a b p q = grind (arith, nat_tests)

pub narrow-small : (lo hi s : ℤ) → unsigned_abs lo ≤ end_limit → unsigned_abs hi ≤ end_limit → narrow lo hi s ≡ settled lo hi s
unfolding narrow_by
narrow-small lo hi s p q =
    let e : s +ℤ pos 0 ≡ s = omega (arith, lin) in
    narrow-is 0 lo hi s (small-test lo hi p q) (λ j h. absurd (omega arith)) ∙ rw (floor_div-one lo, ceil_div-one hi, e)

settled-stays : (lo hi : ℤ) → settled lo hi (pos 0) ≡ interval lo hi (pos 0)
unfolding settled
settled-stays (pos zero) (pos zero) = refl
settled-stays (pos zero) (pos (suc n)) = refl
settled-stays (pos zero) (negsuc n) = refl
settled-stays (pos (suc n)) hi = refl
settled-stays (negsuc n) hi = refl

pub offsets-within : (a b : ℤ) → IsSpan a b → IsWithin 0 (offsets a b)
offsets-within a b s =
    let w = middle_between a b s.ordered in
    record { lo_small = near a (middle a b) b s.first_near s.last_near w.0 w.1; hi_small = near' a (middle a b) b s.first_near s.last_near w.0 w.1; exponent = omega arith }
  where
    near : (a m b : ℤ) → unsigned_abs a ≤ time_limit → unsigned_abs b ≤ time_limit → a ≤ℤ m → m ≤ℤ b → unsigned_abs (a -ℤ m) ≤ end_limit
    near a m b p q r s = omega (arith, ints)

    near' : (a m b : ℤ) → unsigned_abs a ≤ time_limit → unsigned_abs b ≤ time_limit → a ≤ℤ m → m ≤ℤ b → unsigned_abs (b -ℤ m) ≤ end_limit
    near' a m b p q r s = omega (arith, ints)

pub offsets-narrow : (a b : ℤ) → IsSpan a b → narrow (a -ℤ middle a b) (b -ℤ middle a b) (pos 0) ≡ offsets a b
offsets-narrow a b s =
    let h = offsets-within a b s in
    narrow-small (a -ℤ middle a b) (b -ℤ middle a b) (pos 0) h.lo_small h.hi_small ∙ settled-stays (a -ℤ middle a b) (b -ℤ middle a b)
