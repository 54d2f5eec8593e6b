-- Where both ends are 0, and where they are not.
use Rattle.std.proofs.Common.{◌≡◌, ℕ, zero, suc, ◌-◌, of_z, ◌^◌, ◌≤◌, arith, refl, sym, ap, ◌∙◌, ℤ, pos, negsuc, neg_ℤ, ◌+ℤ◌, ◌≤ℤ◌, true, unsigned_abs}
use Rattle.std.proofs.lemmas.Int.{ints}
use Rattle.std.proofs.lemmas.Nat.{pow_pos}
use mir.Syntax.{w128}
use mir.Val.{SFits}
use Rattle.spec_intervals.specs.Interval.{IsIval, end_limit, fits_after, first_fit, narrow_shift, settled, narrow_by, narrow}
use Rattle.spec_numbers.specs.Numbers.{floor_div, ceil_div}
use Rattle.spec_numbers.proofs.Order.{lin}
use Rattle.spec_intervals.proofs.Narrow.{is_small-both, narrow_shift-fits, narrow_shift-is, sizes-fit}
use Rattle.spec_numbers.proofs.Floor.{ordered_quotients, floor_div-one, ceil_div-one}

pub settled-zero : (lo hi s : ℤ) → lo ≡ pos 0 → hi ≡ pos 0 → record { lo = lo; hi = hi; s = pos 0 } ≡ settled lo hi s
unfolding settled
settled-zero lo hi s p q = rw (p, q) refl

pub settled-other : (lo hi s : ℤ) → (lo ≡ pos 0 → hi ≡ pos 0 → ⊥) → record { lo = lo; hi = hi; s = s } ≡ settled lo hi s
unfolding settled
settled-other (pos zero) (pos zero) s n = absurd (n refl refl)
settled-other (pos zero) (pos (suc b)) s n = refl
settled-other (pos zero) (negsuc b) s n = refl
settled-other (pos (suc a)) hi s n = refl
settled-other (negsuc a) hi s n = refl

-- what the least number of halvings leaves is an interval, and settled it is the narrowed one
module _ (lo hi : ℤ) (k : ℕ) (is : k ≡ narrow_shift lo hi) where
  pub halved-small : (unsigned_abs (floor_div lo (2 ^ k)) ≤ end_limit) × (unsigned_abs (ceil_div hi (2 ^ k)) ≤ end_limit)
  halved-small =
      let f : fits_after k lo hi ≡ true = ap (λ n. fits_after n lo hi) is ∙ narrow_shift-fits lo hi in
      is_small-both (floor_div lo (2 ^ k)) (ceil_div hi (2 ^ k)) f

module _ (lo hi a b : ℤ) (k : ℕ) (is : k ≡ narrow_shift lo hi) (p : a ≡ floor_div lo (2 ^ k)) (q : b ≡ ceil_div hi (2 ^ k)) where
  pub halved-IsIval : (e : ℤ) → lo ≤ℤ hi → IsIval (record { lo = a; hi = b; s = e })
  halved-IsIval e o =
      let w : (unsigned_abs (floor_div lo (2 ^ k)) ≤ end_limit) × (unsigned_abs (ceil_div hi (2 ^ k)) ≤ end_limit) = halved-small lo hi k is in
      rw (p, q) (record { ordered = ordered_quotients lo hi (2 ^ k) (pow_pos k) o; lo_small = w.0; hi_small = w.1 })

  pub halved-narrow : (s e : ℤ) → e ≡ s +ℤ pos k → settled a b e ≡ narrow lo hi s
  unfolding narrow narrow_by
  halved-narrow s e r = rw (p, q, r, is) refl

-- both ends of -2^127 may be halved once first
pub narrow-least : (s e : ℤ) → e ≡ s +ℤ pos 1 → narrow (neg_ℤ (pos (2 ^ 126))) (neg_ℤ (pos (2 ^ 126))) e ≡ narrow (neg_ℤ (pos (2 ^ 127))) (neg_ℤ (pos (2 ^ 127))) s
unfolding narrow narrow_by narrow_shift first_fit settled
narrow-least s e r = let f : e +ℤ pos 64 ≡ s +ℤ pos 65 = omega (arith, lin) in rw f refl

-- the least number of 128 bits, from its bits
pub least_from : (z : ℤ) → SFits w128 z → of_z w128 z ≡ 2 ^ 127 → z ≡ neg_ℤ (pos (2 ^ 127))
least_from (pos n) h e = absurd (omega (arith, h.sfits))
least_from (negsuc n) h e = let g : n ≡ 2 ^ 127 - 1 = omega (arith, h.sfits) in ap negsuc g

pub below_least : (lo hi : ℤ) → SFits w128 lo → hi ≡ neg_ℤ (pos (2 ^ 127)) → lo ≤ℤ hi → lo ≡ neg_ℤ (pos (2 ^ 127))
below_least lo hi f e o = omega (arith, ints)

pub narrow-of : (lo hi s a b e : ℤ) → lo ≡ neg_ℤ (pos (2 ^ 127)) → hi ≡ neg_ℤ (pos (2 ^ 127)) → a ≡ neg_ℤ (pos (2 ^ 126)) → b ≡ neg_ℤ (pos (2 ^ 126)) → e ≡ s +ℤ pos 1 → narrow a b e ≡ narrow lo hi s
narrow-of lo hi s a b e p q r t w = rw (p, q, r, t) (narrow-least s e w)

-- ends that are not past the limit stay
pub narrow-small : (lo hi s : ℤ) → unsigned_abs lo ≤ end_limit → unsigned_abs hi ≤ end_limit → settled lo hi s ≡ narrow lo hi s
narrow-small lo hi s p q =
    let m : 0 ≡ narrow_shift lo hi = sym (narrow_shift-is 0 lo hi (sizes-fit 0 lo hi (omega arith) (omega arith)) (λ j h. absurd (omega arith))) in
    halved-narrow lo hi lo hi 0 m (sym (floor_div-one lo)) (sym (ceil_div-one hi)) s s (omega (arith, lin))
