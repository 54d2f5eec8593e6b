-- The product of two intervals holds the product of what they hold.
use Rattle.std.proofs.Common.{◌≡◌, ℕ, ◌+◌, ◌*◌, ◌^◌, arith, sym, ap, ◌∙◌, [], ◌∷◌, ℤ, pos, ◌+ℤ◌, ◌*ℤ◌, ◌≤ℤ◌}
use Rattle.std.proofs.lemmas.Int.{ints, clamps}
use Rattle.std.proofs.lemmas.Nat.{pow-add}
use Rattle.std.specs.Int.{int_min, int_max}
use borrow.Author.Differences.{up, down}
use Rattle.spec_intervals.specs.Interval.{Interval, narrow, least4, greatest4, product}
use Rattle.spec_intervals.specs.Fraction.{Fraction, Holds, AtMost, AtLeast, fraction_mul}
use Rattle.spec_numbers.proofs.Corners.{corner_low, corner_high}
use Rattle.spec_numbers.proofs.Ring.{v, ◌⊗◌, ring}
use Rattle.spec_numbers.proofs.Order.{lin, le-mul}
use Rattle.spec_intervals.proofs.Narrow.{rescale_low, rescale_high, Holds-narrow}

pub least4-le : (a b c d : ℤ) → (least4 a b c d ≤ℤ (a *ℤ c)) × (least4 a b c d ≤ℤ (a *ℤ d)) × (least4 a b c d ≤ℤ (b *ℤ c)) × (least4 a b c d ≤ℤ (b *ℤ d))
least4-le a b c d = least_of (a *ℤ c) (a *ℤ d) (b *ℤ c) (b *ℤ d)
  where
    least_of : (p q r s : ℤ) → (int_min (int_min p q) (int_min r s) ≤ℤ p) × (int_min (int_min p q) (int_min r s) ≤ℤ q) × (int_min (int_min p q) (int_min r s) ≤ℤ r) × (int_min (int_min p q) (int_min r s) ≤ℤ s)
    least_of p q r s = omega (arith, ints, clamps)

pub greatest4-ge : (a b c d : ℤ) → ((a *ℤ c) ≤ℤ greatest4 a b c d) × ((a *ℤ d) ≤ℤ greatest4 a b c d) × ((b *ℤ c) ≤ℤ greatest4 a b c d) × ((b *ℤ d) ≤ℤ greatest4 a b c d)
greatest4-ge a b c d = greatest_of (a *ℤ c) (a *ℤ d) (b *ℤ c) (b *ℤ d)
  where
    greatest_of : (p q r s : ℤ) → (p ≤ℤ int_max (int_max p q) (int_max r s)) × (q ≤ℤ int_max (int_max p q) (int_max r s)) × (r ≤ℤ int_max (int_max p q) (int_max r s)) × (s ≤ℤ int_max (int_max p q) (int_max r s))
    greatest_of p q r s = omega (arith, ints, clamps)

-- the scale of both comes out of a product
pub scales : (a c : ℤ) (p q m n : ℕ) → (a *ℤ c) *ℤ pos (2 ^ (p + q) * (m * n)) ≡ (a *ℤ pos (2 ^ p * m)) *ℤ (c *ℤ pos (2 ^ q * n))
scales a c p q m n =
    ap (λ x. (a *ℤ c) *ℤ pos (x * (m * n))) (pow-add 2 p q) ∙ ring (a ∷ c ∷ pos (2 ^ p) ∷ pos (2 ^ q) ∷ pos m ∷ pos n ∷ []) ((v 0 ⊗ v 1) ⊗ ((v 2 ⊗ v 3) ⊗ (v 4 ⊗ v 5))) ((v 0 ⊗ (v 2 ⊗ v 4)) ⊗ (v 1 ⊗ (v 3 ⊗ v 5))) tt

pub powers : (a c : ℤ) (p q : ℕ) → (a *ℤ pos (2 ^ p)) *ℤ (c *ℤ pos (2 ^ q)) ≡ (a *ℤ c) *ℤ pos (2 ^ (p + q))
powers a c p q =
    ring (a ∷ c ∷ pos (2 ^ p) ∷ pos (2 ^ q) ∷ []) ((v 0 ⊗ v 2) ⊗ (v 1 ⊗ v 3)) ((v 0 ⊗ v 1) ⊗ (v 2 ⊗ v 3)) tt ∙ ap (λ x. (a *ℤ c) *ℤ pos x) (sym (pow-add 2 p q))

module _ (x y : Interval) (r t : Fraction) (hx : Holds x r) (hy : Holds y t) where
  product-low : AtMost (least4 x.lo x.hi y.lo y.hi) (x.s +ℤ y.s) (fraction_mul r t)
  product-low =
      let l : (least4 x.lo x.hi y.lo y.hi ≤ℤ (x.lo *ℤ y.lo)) × (least4 x.lo x.hi y.lo y.hi ≤ℤ (x.lo *ℤ y.hi)) × (least4 x.lo x.hi y.lo y.hi ≤ℤ (x.hi *ℤ y.lo)) × (least4 x.lo x.hi y.lo y.hi ≤ℤ (x.hi *ℤ y.hi)) = least4-le x.lo x.hi y.lo y.hi in
      let k : ℤ = pos (2 ^ (up x.s + up y.s) * (r.denominator * t.denominator)) in
      let k0 : pos 0 ≤ℤ pos (2 ^ (up x.s + up y.s) * (r.denominator * t.denominator)) = omega (arith, lin) in
      let sc : (p q : ℤ) → least4 x.lo x.hi y.lo y.hi ≤ℤ (p *ℤ q) → (least4 x.lo x.hi y.lo y.hi *ℤ pos (2 ^ (up x.s + up y.s) * (r.denominator * t.denominator))) ≤ℤ ((p *ℤ pos (2 ^ up x.s * r.denominator)) *ℤ (q *ℤ pos (2 ^ up y.s * t.denominator))) = λ p q h. rw (← scales p q (up x.s) (up y.s) r.denominator t.denominator) (le-mul (least4 x.lo x.hi y.lo y.hi) (p *ℤ q) (pos (2 ^ (up x.s + up y.s) * (r.denominator * t.denominator))) k0 h) in
      let m : (least4 x.lo x.hi y.lo y.hi *ℤ pos (2 ^ (up x.s + up y.s) * (r.denominator * t.denominator))) ≤ℤ ((r.numerator *ℤ pos (2 ^ down x.s)) *ℤ (t.numerator *ℤ pos (2 ^ down y.s))) = corner_low (least4 x.lo x.hi y.lo y.hi *ℤ pos (2 ^ (up x.s + up y.s) * (r.denominator * t.denominator))) (x.lo *ℤ pos (2 ^ up x.s * r.denominator)) (x.hi *ℤ pos (2 ^ up x.s * r.denominator)) (y.lo *ℤ pos (2 ^ up y.s * t.denominator)) (y.hi *ℤ pos (2 ^ up y.s * t.denominator)) (r.numerator *ℤ pos (2 ^ down x.s)) (t.numerator *ℤ pos (2 ^ down y.s)) hx.low hx.high hy.low hy.high (sc x.lo y.lo l.0) (sc x.lo y.hi l.1) (sc x.hi y.lo l.2) (sc x.hi y.hi l.3) in
      rescale_low (least4 x.lo x.hi y.lo y.hi) (r.numerator *ℤ t.numerator) (r.denominator * t.denominator) (up x.s + up y.s) (down x.s + down y.s) (up (x.s +ℤ y.s)) (down (x.s +ℤ y.s)) (omega (arith, lin)) (rw (powers r.numerator t.numerator (down x.s) (down y.s)) at m)

  product-high : AtLeast (greatest4 x.lo x.hi y.lo y.hi) (x.s +ℤ y.s) (fraction_mul r t)
  product-high =
      let l : ((x.lo *ℤ y.lo) ≤ℤ greatest4 x.lo x.hi y.lo y.hi) × ((x.lo *ℤ y.hi) ≤ℤ greatest4 x.lo x.hi y.lo y.hi) × ((x.hi *ℤ y.lo) ≤ℤ greatest4 x.lo x.hi y.lo y.hi) × ((x.hi *ℤ y.hi) ≤ℤ greatest4 x.lo x.hi y.lo y.hi) = greatest4-ge x.lo x.hi y.lo y.hi in
      let k0 : pos 0 ≤ℤ pos (2 ^ (up x.s + up y.s) * (r.denominator * t.denominator)) = omega (arith, lin) in
      let sc : (p q : ℤ) → (p *ℤ q) ≤ℤ greatest4 x.lo x.hi y.lo y.hi → ((p *ℤ pos (2 ^ up x.s * r.denominator)) *ℤ (q *ℤ pos (2 ^ up y.s * t.denominator))) ≤ℤ (greatest4 x.lo x.hi y.lo y.hi *ℤ pos (2 ^ (up x.s + up y.s) * (r.denominator * t.denominator))) = λ p q h. rw (← scales p q (up x.s) (up y.s) r.denominator t.denominator) (le-mul (p *ℤ q) (greatest4 x.lo x.hi y.lo y.hi) (pos (2 ^ (up x.s + up y.s) * (r.denominator * t.denominator))) k0 h) in
      let m : ((r.numerator *ℤ pos (2 ^ down x.s)) *ℤ (t.numerator *ℤ pos (2 ^ down y.s))) ≤ℤ (greatest4 x.lo x.hi y.lo y.hi *ℤ pos (2 ^ (up x.s + up y.s) * (r.denominator * t.denominator))) = corner_high (greatest4 x.lo x.hi y.lo y.hi *ℤ pos (2 ^ (up x.s + up y.s) * (r.denominator * t.denominator))) (x.lo *ℤ pos (2 ^ up x.s * r.denominator)) (x.hi *ℤ pos (2 ^ up x.s * r.denominator)) (y.lo *ℤ pos (2 ^ up y.s * t.denominator)) (y.hi *ℤ pos (2 ^ up y.s * t.denominator)) (r.numerator *ℤ pos (2 ^ down x.s)) (t.numerator *ℤ pos (2 ^ down y.s)) hx.low hx.high hy.low hy.high (sc x.lo y.lo l.0) (sc x.lo y.hi l.1) (sc x.hi y.lo l.2) (sc x.hi y.hi l.3) in
      rescale_high (greatest4 x.lo x.hi y.lo y.hi) (r.numerator *ℤ t.numerator) (r.denominator * t.denominator) (up x.s + up y.s) (down x.s + down y.s) (up (x.s +ℤ y.s)) (down (x.s +ℤ y.s)) (omega (arith, lin)) (rw (powers r.numerator t.numerator (down x.s) (down y.s)) at m)

  pub Holds-product : Holds (product x y) (fraction_mul r t)
  unfolding product
  Holds-product =
      Holds-narrow (least4 x.lo x.hi y.lo y.hi) (greatest4 x.lo x.hi y.lo y.hi) (x.s +ℤ y.s) (fraction_mul r t) product-low product-high

pub product-parts : (x y : Interval) (lo hi s : ℤ) → lo ≡ least4 x.lo x.hi y.lo y.hi → hi ≡ greatest4 x.lo x.hi y.lo y.hi → s ≡ x.s +ℤ y.s → narrow lo hi s ≡ product x y
unfolding product
product-parts x y lo hi s p q r = rw (p, q, r)

pub corners_ordered : (a b c d : ℤ) → least4 a b c d ≤ℤ greatest4 a b c d
corners_ordered a b c d =
    let p : least4 a b c d ≤ℤ (a *ℤ c) = (least4-le a b c d).0 in
    let q : (a *ℤ c) ≤ℤ greatest4 a b c d = (greatest4-ge a b c d).0 in
    omega (arith, lin)
