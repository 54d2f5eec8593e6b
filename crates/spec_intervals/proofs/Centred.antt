-- The change over many times, and the centred form.
use Rattle.std.proofs.Common.{◌≡◌, ℕ, zero, suc, ◌*◌, ◌^◌, arith, refl, sym, ap, subst, ◌∙◌, [], ◌∷◌, ℤ, pos, negsuc, ◌+ℤ◌, ◌-ℤ◌, ◌*ℤ◌, neg_ℤ, ◌≤ℤ◌, ◌<ℤ◌, ◌⊎◌, inl, inr}
use Rattle.std.proofs.lemmas.Int.{ints}
use borrow.Author.Differences.{up, down}
use Rattle.spec_numbers.proofs.Ring.{v, k as lit, ◌⊕◌, ◌⊖◌, ◌⊗◌, minus, ring}
use Rattle.spec_numbers.proofs.Whole.{mul_comm}
use Rattle.spec_numbers.proofs.Order.{lin}
use Rattle.spec_intervals.specs.Fraction.{Fraction, IsFraction, Holds, AtMost, AtLeast, fraction_add, fraction_sub}
use Rattle.spec_intervals.proofs.Narrow.{Holds-narrow}
use Rattle.spec_intervals.specs.Interval.{Interval, interval, least4, greatest4, product, sum}
use Rattle.spec_intervals.specs.Enclosure.{AllFractions, change, middle, centred}
use Rattle.spec_numbers.proofs.Floor.{floor_div-le, floor_div-lt}
use Rattle.spec_intervals.proofs.Compare.{AtMost-le, AtLeast-le, AtMost-less, AtLeast-more, Holds-same}
use Rattle.spec_numbers.proofs.Naturals.{positive_product}
use Rattle.spec_intervals.proofs.Sums.{sum_low, sum_high, Holds-sum}
use Rattle.spec_intervals.proofs.Products.{least4-le, greatest4-ge}
use Rattle.spec_numbers.proofs.Corners.{between_low, between_high}
use Rattle.spec_intervals.proofs.Rules.{AtMost-neg, AtLeast-neg, fraction_neg}

-- from x to y and from y to z is from x to z
path : (x y z : Fraction) → (fraction_add (fraction_sub y x) (fraction_sub z y)).numerator *ℤ pos (fraction_sub z x).denominator ≡ (fraction_sub z x).numerator *ℤ pos (fraction_add (fraction_sub y x) (fraction_sub z y)).denominator
path x y z =
    ring (x.numerator ∷ y.numerator ∷ z.numerator ∷ pos x.denominator ∷ pos y.denominator ∷ pos z.denominator ∷ []) (((v 1 ⊗ v 3 ⊖ v 0 ⊗ v 4) ⊗ (v 5 ⊗ v 4) ⊕ (v 2 ⊗ v 4 ⊖ v 1 ⊗ v 5) ⊗ (v 4 ⊗ v 3)) ⊗ (v 5 ⊗ v 3)) ((v 2 ⊗ v 3 ⊖ v 0 ⊗ v 5) ⊗ ((v 4 ⊗ v 3) ⊗ (v 5 ⊗ v 4))) tt

turned_back : (x y : Fraction) → (fraction_neg (fraction_sub x y)).numerator *ℤ pos (fraction_sub y x).denominator ≡ (fraction_sub y x).numerator *ℤ pos (fraction_neg (fraction_sub x y)).denominator
turned_back x y =
    ring (x.numerator ∷ y.numerator ∷ pos x.denominator ∷ pos y.denominator ∷ []) (minus (v 0 ⊗ v 3 ⊖ v 1 ⊗ v 2) ⊗ (v 3 ⊗ v 2)) ((v 1 ⊗ v 2 ⊖ v 0 ⊗ v 3) ⊗ (v 2 ⊗ v 3)) tt

back : (x y : Fraction) → (fraction_add x (fraction_sub y x)).numerator *ℤ pos y.denominator ≡ y.numerator *ℤ pos (fraction_add x (fraction_sub y x)).denominator
back x y =
    ring (x.numerator ∷ y.numerator ∷ pos x.denominator ∷ pos y.denominator ∷ []) ((v 0 ⊗ (v 3 ⊗ v 2) ⊕ (v 1 ⊗ v 2 ⊖ v 0 ⊗ v 3) ⊗ v 2) ⊗ v 3) (v 1 ⊗ (v 2 ⊗ (v 3 ⊗ v 2))) tt

pub itself : (x : Fraction) → (fraction_sub x x).numerator ≡ pos 0
itself x = omega (arith, lin)

pub IsFraction-sub : (x y : Fraction) → IsFraction x → IsFraction y → IsFraction (fraction_sub x y)
IsFraction-sub x y p q = positive_product x.denominator y.denominator p q

-- equal fractions stand in for each other at one end
pub AtMost-same : (z s : ℤ) (a b : Fraction) → IsFraction a → a.numerator *ℤ pos b.denominator ≡ b.numerator *ℤ pos a.denominator → AtMost z s a → AtMost z s b
AtMost-same z s a b p e h = AtMost-le z s a b p (omega (arith, lin)) h

pub AtLeast-same : (z s : ℤ) (a b : Fraction) → IsFraction a → a.numerator *ℤ pos b.denominator ≡ b.numerator *ℤ pos a.denominator → AtLeast z s a → AtLeast z s b
AtLeast-same z s a b p e h = AtLeast-le z s b a p (omega (arith, lin)) h

more : (k : ℕ) (z : ℤ) → pos k *ℤ z +ℤ z ≡ pos (suc k) *ℤ z
more k z = ring (pos k ∷ z ∷ []) (v 0 ⊗ v 1 ⊕ v 1) ((v 0 ⊕ lit (pos 1)) ⊗ v 1) tt ∙ ap (λ n. pos n *ℤ z) (omega arith)

none_of : (z : ℤ) (n : ℕ) → pos 0 *ℤ z *ℤ pos n ≡ pos 0
none_of z n = ring (z ∷ pos n ∷ []) (lit (pos 0) ⊗ v 0 ⊗ v 1) (lit (pos 0)) tt

nothing : (n : ℕ) → pos 0 *ℤ pos n ≡ pos 0
nothing n = ring (pos n ∷ []) (lit (pos 0) ⊗ v 0) (lit (pos 0)) tt

zero_low : (z s : ℤ) (r : Fraction) → r.numerator ≡ pos 0 → AtMost (pos 0 *ℤ z) s r
zero_low z s r e = let a = none_of z (2 ^ up s * r.denominator) in let b = nothing (2 ^ down s) in rw e (omega (arith, lin))

zero_high : (z s : ℤ) (r : Fraction) → r.numerator ≡ pos 0 → AtLeast (pos 0 *ℤ z) s r
zero_high z s r e = let a = none_of z (2 ^ up s * r.denominator) in let b = nothing (2 ^ down s) in rw e (omega (arith, lin))

next : (t : ℤ) (k : ℕ) → (t +ℤ pos k) +ℤ pos 1 ≡ t +ℤ pos (suc k)
next t k = omega (arith, lin)

-- the change over k times is k times a change
module _ (f : ℤ → Fraction) (a b : ℤ) (fs : AllFractions f a b) (step : Interval) (h : (t : ℤ) → a ≤ℤ t → t <ℤ b → Holds step (change f t)) where
  pub run : (t : ℤ) (k : ℕ) → a ≤ℤ t → (t +ℤ pos k) ≤ℤ b → Holds (interval (pos k *ℤ step.lo) (pos k *ℤ step.hi) step.s) (fraction_sub (f (t +ℤ pos k)) (f t))
  run t zero p q =
      let e : t +ℤ pos 0 ≡ t = omega (arith, lin) in
      let same = itself (f t) in
      rw e (record { low = zero_low step.lo step.s (fraction_sub (f t) (f t)) same; high = zero_high step.hi step.s (fraction_sub (f t) (f t)) same })
  run t (suc k) p q =
      let i : IsFraction (f t) = fs t p (omega (arith, lin)) in
      let j : IsFraction (f (t +ℤ pos k)) = fs (t +ℤ pos k) (omega (arith, lin)) (omega (arith, lin)) in
      let n : IsFraction (f (t +ℤ pos k +ℤ pos 1)) = fs (t +ℤ pos k +ℤ pos 1) (omega (arith, lin)) (omega (arith, lin)) in
      let before = fraction_sub (f (t +ℤ pos k)) (f t) in
      let last = fraction_sub (f (t +ℤ pos k +ℤ pos 1)) (f (t +ℤ pos k)) in
      let ih = run t k p (omega (arith, lin)) in
      let g = h (t +ℤ pos k) (omega (arith, lin)) (omega (arith, lin)) in
      let wider = interval (pos k *ℤ step.lo +ℤ step.lo) (pos k *ℤ step.hi +ℤ step.hi) step.s in
      let both : Holds wider (fraction_add before last) = record { low = sum_low (pos k *ℤ step.lo) step.lo step.s before last ih.low g.low; high = sum_high (pos k *ℤ step.hi) step.hi step.s before last ih.high g.high } in
      let whole : Holds wider (fraction_sub (f (t +ℤ pos k +ℤ pos 1)) (f t)) = Holds-same wider (fraction_add before last) (fraction_sub (f (t +ℤ pos k +ℤ pos 1)) (f t)) (positive_product _ _ (IsFraction-sub (f (t +ℤ pos k)) (f t) j i) (IsFraction-sub (f (t +ℤ pos k +ℤ pos 1)) (f (t +ℤ pos k)) n j)) (path (f t) (f (t +ℤ pos k)) (f (t +ℤ pos k +ℤ pos 1))) both in
      subst (λ x. Holds x (fraction_sub (f (t +ℤ pos (suc k))) (f t))) (λ m. interval (more k step.lo m) (more k step.hi m) step.s) (subst (λ x. Holds wider (fraction_sub (f x) (f t))) (next t k) whole)

against : (a b : ℤ) → a *ℤ neg_ℤ b ≡ neg_ℤ (b *ℤ a)
against a b = ring (a ∷ b ∷ []) (v 0 ⊗ minus (v 1)) (minus (v 1 ⊗ v 0)) tt

least_at : (lo hi c d y z : ℤ) → z ≡ lo ⊎ z ≡ hi → c ≤ℤ y → y ≤ℤ d → least4 lo hi c d ≤ℤ (z *ℤ y)
least_at lo hi c d y z (inl e) p q = let l = least4-le lo hi c d in rw e (between_low (least4 lo hi c d) lo c d y p q l.0 l.1)
least_at lo hi c d y z (inr e) p q = let l = least4-le lo hi c d in rw e (between_low (least4 lo hi c d) hi c d y p q l.2 l.3)

greatest_at : (lo hi c d y z : ℤ) → z ≡ lo ⊎ z ≡ hi → c ≤ℤ y → y ≤ℤ d → (z *ℤ y) ≤ℤ greatest4 lo hi c d
greatest_at lo hi c d y z (inl e) p q = let l = greatest4-ge lo hi c d in rw e (between_high (greatest4 lo hi c d) lo c d y p q l.0 l.1)
greatest_at lo hi c d y z (inr e) p q = let l = greatest4-ge lo hi c d in rw e (between_high (greatest4 lo hi c d) hi c d y p q l.2 l.3)

-- t seen from m: k times above, or k times below
apart : (t m : ℤ) → ((k : ℕ) × (t ≡ m +ℤ pos k)) ⊎ ((k : ℕ) × (m ≡ t +ℤ pos k))
apart t m = by (t -ℤ m) refl
  where
    by : (d : ℤ) → t -ℤ m ≡ d → ((k : ℕ) × (t ≡ m +ℤ pos k)) ⊎ ((k : ℕ) × (m ≡ t +ℤ pos k))
    by (pos k) e = inl (k, omega (arith, lin))
    by (negsuc k) e = inr (suc k, omega (arith, lin))

module _ (f : ℤ → Fraction) (a b m : ℤ) (fs : AllFractions f a b) (step : Interval) (h : (t : ℤ) → a ≤ℤ t → t <ℤ b → Holds step (change f t)) (am : a ≤ℤ m) (mb : m ≤ℤ b) where
  abbrev seen : Interval
  seen = record { lo = a -ℤ m; hi = b -ℤ m; s = pos 0 }

  unscaled : step.s +ℤ pos 0 ≡ step.s
  unscaled = omega (arith, lin)

  from_ends : (r : Fraction) → AtMost (least4 step.lo step.hi (a -ℤ m) (b -ℤ m)) step.s r → AtLeast (greatest4 step.lo step.hi (a -ℤ m) (b -ℤ m)) step.s r → Holds (product step seen) r
  unfolding product
  from_ends r p q =
      Holds-narrow (least4 step.lo step.hi (a -ℤ m) (b -ℤ m)) (greatest4 step.lo step.hi (a -ℤ m) (b -ℤ m)) (step.s +ℤ pos 0) r (subst (λ x. AtMost (least4 step.lo step.hi (a -ℤ m) (b -ℤ m)) x r) (sym unscaled) p) (subst (λ x. AtLeast (greatest4 step.lo step.hi (a -ℤ m) (b -ℤ m)) x r) (sym unscaled) q)

  up_from : (k : ℕ) → (m +ℤ pos k) ≤ℤ b → Holds (product step seen) (fraction_sub (f (m +ℤ pos k)) (f m))
  up_from k q =
      let l : least4 step.lo step.hi (a -ℤ m) (b -ℤ m) ≤ℤ (step.lo *ℤ pos k) = least_at step.lo step.hi (a -ℤ m) (b -ℤ m) (pos k) step.lo (inl refl) (omega (arith, lin)) (omega (arith, lin)) in
      let g : (step.hi *ℤ pos k) ≤ℤ greatest4 step.lo step.hi (a -ℤ m) (b -ℤ m) = greatest_at step.lo step.hi (a -ℤ m) (b -ℤ m) (pos k) step.hi (inr refl) (omega (arith, lin)) (omega (arith, lin)) in
      from_ends (fraction_sub (f (m +ℤ pos k)) (f m)) (AtMost-less (least4 step.lo step.hi (a -ℤ m) (b -ℤ m)) (pos k *ℤ step.lo) step.s _ (rw (mul_comm step.lo (pos k)) at l) (run f a b fs step h m k am q).low) (AtLeast-more (pos k *ℤ step.hi) (greatest4 step.lo step.hi (a -ℤ m) (b -ℤ m)) step.s _ (rw (mul_comm step.hi (pos k)) at g) (run f a b fs step h m k am q).high)

  down_from : (t : ℤ) (k : ℕ) → a ≤ℤ t → m ≡ t +ℤ pos k → Holds (product step seen) (fraction_sub (f t) (f m))
  down_from t k p e =
      let l : least4 step.lo step.hi (a -ℤ m) (b -ℤ m) ≤ℤ (step.hi *ℤ neg_ℤ (pos k)) = least_at step.lo step.hi (a -ℤ m) (b -ℤ m) (neg_ℤ (pos k)) step.hi (inr refl) (omega (arith, lin)) (omega (arith, lin)) in
      let g : (step.lo *ℤ neg_ℤ (pos k)) ≤ℤ greatest4 step.lo step.hi (a -ℤ m) (b -ℤ m) = greatest_at step.lo step.hi (a -ℤ m) (b -ℤ m) (neg_ℤ (pos k)) step.lo (inl refl) (omega (arith, lin)) (omega (arith, lin)) in
      let x : AtMost (pos k *ℤ step.lo) step.s (fraction_sub (f m) (f t)) = subst (λ n. AtMost (pos k *ℤ step.lo) step.s (fraction_sub (f n) (f t))) (sym e) (run f a b fs step h t k p (omega (arith, lin))).low in
      let y : AtLeast (pos k *ℤ step.hi) step.s (fraction_sub (f m) (f t)) = subst (λ n. AtLeast (pos k *ℤ step.hi) step.s (fraction_sub (f n) (f t))) (sym e) (run f a b fs step h t k p (omega (arith, lin))).high in
      let w : IsFraction (fraction_sub (f m) (f t)) = IsFraction-sub (f m) (f t) (fs m am mb) (fs t p (omega (arith, lin))) in
      let y' : AtMost (neg_ℤ (pos k *ℤ step.hi)) step.s (fraction_sub (f t) (f m)) = AtMost-same (neg_ℤ (pos k *ℤ step.hi)) step.s (fraction_neg (fraction_sub (f m) (f t))) (fraction_sub (f t) (f m)) w (turned_back (f m) (f t)) (AtMost-neg (pos k *ℤ step.hi) step.s (fraction_sub (f m) (f t)) y) in
      let x' : AtLeast (neg_ℤ (pos k *ℤ step.lo)) step.s (fraction_sub (f t) (f m)) = AtLeast-same (neg_ℤ (pos k *ℤ step.lo)) step.s (fraction_neg (fraction_sub (f m) (f t))) (fraction_sub (f t) (f m)) w (turned_back (f m) (f t)) (AtLeast-neg (pos k *ℤ step.lo) step.s (fraction_sub (f m) (f t)) x) in
      from_ends (fraction_sub (f t) (f m)) (AtMost-less (least4 step.lo step.hi (a -ℤ m) (b -ℤ m)) (neg_ℤ (pos k *ℤ step.hi)) step.s _ (rw (against step.hi (pos k)) at l) y') (AtLeast-more (neg_ℤ (pos k *ℤ step.lo)) (greatest4 step.lo step.hi (a -ℤ m) (b -ℤ m)) step.s _ (rw (against step.lo (pos k)) at g) x')

  pub Holds-offset : (t : ℤ) → a ≤ℤ t → t ≤ℤ b → Holds (product step seen) (fraction_sub (f t) (f m))
  Holds-offset t p q = by (apart t m)
    where
      by : ((k : ℕ) × (t ≡ m +ℤ pos k)) ⊎ ((k : ℕ) × (m ≡ t +ℤ pos k)) → Holds (product step seen) (fraction_sub (f t) (f m))
      by (inl (k, e)) = rw e (up_from k (omega (arith, lin)))
      by (inr (k, e)) = down_from t k p e

  pub Holds-from_mid : (mid : Interval) → Holds mid (f m) → (t : ℤ) → a ≤ℤ t → t ≤ℤ b → Holds (sum mid (product step seen)) (f t)
  Holds-from_mid mid g t p q =
      Holds-same (sum mid (product step seen)) (fraction_add (f m) (fraction_sub (f t) (f m))) (f t) (positive_product _ _ (fs m am mb) (IsFraction-sub (f t) (f m) (fs t p q) (fs m am mb))) (back (f m) (f t)) (Holds-sum mid (product step seen) (f m) (fraction_sub (f t) (f m)) g (Holds-offset t p q))

-- the middle lies between
pub middle_between : (a b : ℤ) → a ≤ℤ b → (a ≤ℤ middle a b) × (middle a b ≤ℤ b)
middle_between a b h =
    let l = floor_div-le (a +ℤ b) 2 (omega arith) in
    let u = floor_div-lt (a +ℤ b) 2 (omega arith) in
    omega (arith, ints)

pub Holds-centred : (f : ℤ → Fraction) (a b : ℤ) → AllFractions f a b → a ≤ℤ b → (mid step : Interval) → Holds mid (f (middle a b)) → ((t : ℤ) → a ≤ℤ t → t <ℤ b → Holds step (change f t)) → (t : ℤ) → a ≤ℤ t → t ≤ℤ b → Holds (centred a b mid step) (f t)
unfolding centred
Holds-centred f a b fs h mid step g s t p q =
    let w = middle_between a b h in
    Holds-from_mid f a b (middle a b) fs step s w.0 w.1 mid g t p q
