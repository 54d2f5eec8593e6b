-- What one step of a row holds, over plain numbers: products of ends, quotients rounded outward, and the cut.
use Rattle.std.proofs.Common.{◌≡◌, ℕ, ◌^◌, ◌<◌, arith, [], ◌∷◌, ℤ, pos, ◌+ℤ◌, ◌-ℤ◌, ◌*ℤ◌, neg_ℤ, ◌≤ℤ◌, ◌⊎◌, inl, inr}
use Rattle.std.proofs.lemmas.Int.{ints}
use Rattle.std.proofs.lemmas.Nat.{pow_pos}
use Rattle.std.specs.Int.{int_min, int_max}
use Rattle.spec_intervals.specs.Interval.{least4, greatest4}
use Rattle.spec_numbers.proofs.Ring.{v, k as lit, ◌⊕◌, ◌⊖◌, ◌⊗◌, minus, ring}
use Rattle.spec_numbers.proofs.Order.{lin, le-mul, le-mul_cancel}
use Rattle.spec_numbers.proofs.Whole.{nonneg-mul}
use Rattle.spec_numbers.proofs.Corners.{corner_low, corner_high}
use Rattle.spec_intervals.proofs.Products.{least4-le, greatest4-ge}

-- a cut at a bound that the exact value keeps
pub cut_low : (a b d n : ℤ) → (a *ℤ d) ≤ℤ n → (b *ℤ d) ≤ℤ n → (int_max a b *ℤ d) ≤ℤ n
cut_low a b d n p q = by (max_is a b)
  where
    max_is : (a b : ℤ) → (int_max a b ≡ a) ⊎ (int_max a b ≡ b)
    max_is a b = grind (arith, ints)

    by : (int_max a b ≡ a) ⊎ (int_max a b ≡ b) → (int_max a b *ℤ d) ≤ℤ n
    by (inl e) = rw e p
    by (inr e) = rw e q

pub cut_high : (a b d n : ℤ) → n ≤ℤ (a *ℤ d) → n ≤ℤ (b *ℤ d) → n ≤ℤ (int_min a b *ℤ d)
cut_high a b d n p q = by (min_is a b)
  where
    min_is : (a b : ℤ) → (int_min a b ≡ a) ⊎ (int_min a b ≡ b)
    min_is a b = grind (arith, ints)

    by : (int_min a b ≡ a) ⊎ (int_min a b ≡ b) → n ≤ℤ (int_min a b *ℤ d)
    by (inl e) = rw e p
    by (inr e) = rw e q

-- xl d <= z <= xh d and cl f <= y <= ch f, so the products of the ends are round z y at d f
module _ (xl xh cl ch d f z y : ℤ) (d0 : pos 0 ≤ℤ d) (f0 : pos 0 ≤ℤ f) (zl : (xl *ℤ d) ≤ℤ z) (zh : z ≤ℤ (xh *ℤ d)) (yl : (cl *ℤ f) ≤ℤ y) (yh : y ≤ℤ (ch *ℤ f)) where
  nonneg : pos 0 ≤ℤ (d *ℤ f)
  nonneg = nonneg-mul d f d0 f0

  shuffle : (p q : ℤ) → (p *ℤ d) *ℤ (q *ℤ f) ≡ (p *ℤ q) *ℤ (d *ℤ f)
  shuffle p q = ring (p ∷ q ∷ d ∷ f ∷ []) ((v 0 ⊗ v 2) ⊗ (v 1 ⊗ v 3)) ((v 0 ⊗ v 1) ⊗ (v 2 ⊗ v 3)) tt

  pub least_below : (least4 xl xh cl ch *ℤ (d *ℤ f)) ≤ℤ (z *ℤ y)
  least_below =
      let c : (least4 xl xh cl ch ≤ℤ (xl *ℤ cl)) × (least4 xl xh cl ch ≤ℤ (xl *ℤ ch)) × (least4 xl xh cl ch ≤ℤ (xh *ℤ cl)) × (least4 xl xh cl ch ≤ℤ (xh *ℤ ch)) = least4-le xl xh cl ch in
      let sc : (p q : ℤ) → least4 xl xh cl ch ≤ℤ (p *ℤ q) → (least4 xl xh cl ch *ℤ (d *ℤ f)) ≤ℤ ((p *ℤ d) *ℤ (q *ℤ f)) = λ p q h. rw (shuffle p q) (le-mul (least4 xl xh cl ch) (p *ℤ q) (d *ℤ f) nonneg h) in
      corner_low (least4 xl xh cl ch *ℤ (d *ℤ f)) (xl *ℤ d) (xh *ℤ d) (cl *ℤ f) (ch *ℤ f) z y zl zh yl yh (sc xl cl c.0) (sc xl ch c.1) (sc xh cl c.2) (sc xh ch c.3)

  pub greatest_above : (z *ℤ y) ≤ℤ (greatest4 xl xh cl ch *ℤ (d *ℤ f))
  greatest_above =
      let c : ((xl *ℤ cl) ≤ℤ greatest4 xl xh cl ch) × ((xl *ℤ ch) ≤ℤ greatest4 xl xh cl ch) × ((xh *ℤ cl) ≤ℤ greatest4 xl xh cl ch) × ((xh *ℤ ch) ≤ℤ greatest4 xl xh cl ch) = greatest4-ge xl xh cl ch in
      let sc : (p q : ℤ) → (p *ℤ q) ≤ℤ greatest4 xl xh cl ch → ((p *ℤ d) *ℤ (q *ℤ f)) ≤ℤ (greatest4 xl xh cl ch *ℤ (d *ℤ f)) = λ p q h. rw (shuffle p q) (le-mul (p *ℤ q) (greatest4 xl xh cl ch) (d *ℤ f) nonneg h) in
      corner_high (greatest4 xl xh cl ch *ℤ (d *ℤ f)) (xl *ℤ d) (xh *ℤ d) (cl *ℤ f) (ch *ℤ f) z y zl zh yl yh (sc xl cl c.0) (sc xl ch c.1) (sc xh cl c.2) (sc xh ch c.3)

-- f 2^59 <= m and m d <= n 2^60, so f d <= 2 n
pub quotient_low : (f m d n : ℤ) → (f *ℤ pos (2 ^ 59)) ≤ℤ m → pos 0 ≤ℤ d → (m *ℤ d) ≤ℤ (n *ℤ pos (2 ^ 60)) → (f *ℤ d) ≤ℤ (pos 2 *ℤ n)
quotient_low f m d n p q r =
    let a : (f *ℤ pos (2 ^ 59) *ℤ d) ≤ℤ (m *ℤ d) = le-mul (f *ℤ pos (2 ^ 59)) m d q p in
    let b : f *ℤ d *ℤ pos (2 ^ 59) ≡ f *ℤ pos (2 ^ 59) *ℤ d = ring (f ∷ d ∷ []) (v 0 ⊗ v 1 ⊗ lit (pos (2 ^ 59))) (v 0 ⊗ lit (pos (2 ^ 59)) ⊗ v 1) tt in
    let e : pos 2 *ℤ n *ℤ pos (2 ^ 59) ≡ n *ℤ pos (2 ^ 60) = ring (n ∷ []) (lit (pos 2) ⊗ v 0 ⊗ lit (pos (2 ^ 59))) (v 0 ⊗ lit (pos (2 ^ 60))) tt in
    le-mul_cancel (f *ℤ d) (pos 2 *ℤ n) (2 ^ 59) (pow_pos 59) (omega (arith, lin))

pub quotient_high : (f m d n : ℤ) → m ≤ℤ (f *ℤ pos (2 ^ 59)) → pos 0 ≤ℤ d → (n *ℤ pos (2 ^ 60)) ≤ℤ (m *ℤ d) → (pos 2 *ℤ n) ≤ℤ (f *ℤ d)
quotient_high f m d n p q r =
    let a : (m *ℤ d) ≤ℤ (f *ℤ pos (2 ^ 59) *ℤ d) = le-mul m (f *ℤ pos (2 ^ 59)) d q p in
    let b : f *ℤ d *ℤ pos (2 ^ 59) ≡ f *ℤ pos (2 ^ 59) *ℤ d = ring (f ∷ d ∷ []) (v 0 ⊗ v 1 ⊗ lit (pos (2 ^ 59))) (v 0 ⊗ lit (pos (2 ^ 59)) ⊗ v 1) tt in
    let e : pos 2 *ℤ n *ℤ pos (2 ^ 59) ≡ n *ℤ pos (2 ^ 60) = ring (n ∷ []) (lit (pos 2) ⊗ v 0 ⊗ lit (pos (2 ^ 59))) (v 0 ⊗ lit (pos (2 ^ 60))) tt in
    le-mul_cancel (pos 2 *ℤ n) (f *ℤ d) (2 ^ 59) (pow_pos 59) (omega (arith, lin))

-- the sum of the three parts of a step at the common denominator l (l p)
pub parts_low : (f g e u l n1 n0 m N p S : ℤ) → pos 0 ≤ℤ l → N ≡ pos 2 *ℤ u *ℤ n1 +ℤ m -ℤ l *ℤ l *ℤ n0 → (f *ℤ (l *ℤ (l *ℤ p))) ≤ℤ (pos 2 *ℤ (u *ℤ n1 *ℤ S)) → (g *ℤ (l *ℤ (l *ℤ p))) ≤ℤ (m *ℤ S) → (n0 *ℤ S) ≤ℤ (e *ℤ p) → ((f +ℤ g -ℤ e) *ℤ (l *ℤ (l *ℤ p))) ≤ℤ (N *ℤ S)
parts_low f g e u l n1 n0 m N p S l0 eq hf hg he =
    let a : ((n0 *ℤ S) *ℤ (l *ℤ l)) ≤ℤ ((e *ℤ p) *ℤ (l *ℤ l)) = le-mul (n0 *ℤ S) (e *ℤ p) (l *ℤ l) (nonneg-mul l l l0 l0) he in
    let b : (f +ℤ g -ℤ e) *ℤ (l *ℤ (l *ℤ p)) ≡ f *ℤ (l *ℤ (l *ℤ p)) +ℤ g *ℤ (l *ℤ (l *ℤ p)) -ℤ (e *ℤ p) *ℤ (l *ℤ l) = ring (f ∷ g ∷ e ∷ l ∷ p ∷ []) ((v 0 ⊕ v 1 ⊖ v 2) ⊗ (v 3 ⊗ (v 3 ⊗ v 4))) (v 0 ⊗ (v 3 ⊗ (v 3 ⊗ v 4)) ⊕ v 1 ⊗ (v 3 ⊗ (v 3 ⊗ v 4)) ⊖ (v 2 ⊗ v 4) ⊗ (v 3 ⊗ v 3)) tt in
    let c : (pos 2 *ℤ u *ℤ n1 +ℤ m -ℤ l *ℤ l *ℤ n0) *ℤ S ≡ pos 2 *ℤ (u *ℤ n1 *ℤ S) +ℤ m *ℤ S -ℤ (n0 *ℤ S) *ℤ (l *ℤ l) = ring (u ∷ n1 ∷ m ∷ l ∷ n0 ∷ S ∷ []) ((lit (pos 2) ⊗ v 0 ⊗ v 1 ⊕ v 2 ⊖ v 3 ⊗ v 3 ⊗ v 4) ⊗ v 5) (lit (pos 2) ⊗ (v 0 ⊗ v 1 ⊗ v 5) ⊕ v 2 ⊗ v 5 ⊖ (v 4 ⊗ v 5) ⊗ (v 3 ⊗ v 3)) tt in
    rw (b, eq, c) (omega (arith, lin))

pub parts_high : (f g e u l n1 n0 m N p S : ℤ) → pos 0 ≤ℤ l → N ≡ pos 2 *ℤ u *ℤ n1 +ℤ m -ℤ l *ℤ l *ℤ n0 → (pos 2 *ℤ (u *ℤ n1 *ℤ S)) ≤ℤ (f *ℤ (l *ℤ (l *ℤ p))) → (m *ℤ S) ≤ℤ (g *ℤ (l *ℤ (l *ℤ p))) → (e *ℤ p) ≤ℤ (n0 *ℤ S) → (N *ℤ S) ≤ℤ ((f +ℤ g -ℤ e) *ℤ (l *ℤ (l *ℤ p)))
parts_high f g e u l n1 n0 m N p S l0 eq hf hg he =
    let a : ((e *ℤ p) *ℤ (l *ℤ l)) ≤ℤ ((n0 *ℤ S) *ℤ (l *ℤ l)) = le-mul (e *ℤ p) (n0 *ℤ S) (l *ℤ l) (nonneg-mul l l l0 l0) he in
    let b : (f +ℤ g -ℤ e) *ℤ (l *ℤ (l *ℤ p)) ≡ f *ℤ (l *ℤ (l *ℤ p)) +ℤ g *ℤ (l *ℤ (l *ℤ p)) -ℤ (e *ℤ p) *ℤ (l *ℤ l) = ring (f ∷ g ∷ e ∷ l ∷ p ∷ []) ((v 0 ⊕ v 1 ⊖ v 2) ⊗ (v 3 ⊗ (v 3 ⊗ v 4))) (v 0 ⊗ (v 3 ⊗ (v 3 ⊗ v 4)) ⊕ v 1 ⊗ (v 3 ⊗ (v 3 ⊗ v 4)) ⊖ (v 2 ⊗ v 4) ⊗ (v 3 ⊗ v 3)) tt in
    let c : (pos 2 *ℤ u *ℤ n1 +ℤ m -ℤ l *ℤ l *ℤ n0) *ℤ S ≡ pos 2 *ℤ (u *ℤ n1 *ℤ S) +ℤ m *ℤ S -ℤ (n0 *ℤ S) *ℤ (l *ℤ l) = ring (u ∷ n1 ∷ m ∷ l ∷ n0 ∷ S ∷ []) ((lit (pos 2) ⊗ v 0 ⊗ v 1 ⊕ v 2 ⊖ v 3 ⊗ v 3 ⊗ v 4) ⊗ v 5) (lit (pos 2) ⊗ (v 0 ⊗ v 1 ⊗ v 5) ⊕ v 2 ⊗ v 5 ⊖ (v 4 ⊗ v 5) ⊗ (v 3 ⊗ v 3)) tt in
    rw (b, eq, c) (omega (arith, lin))

-- (u 2^60) (n1 S) is (u n1 S) 2^60
pub at_60 : (u n1 S : ℤ) → (u *ℤ pos (2 ^ 60)) *ℤ (n1 *ℤ S) ≡ (u *ℤ n1 *ℤ S) *ℤ pos (2 ^ 60)
at_60 u n1 S = ring (u ∷ n1 ∷ S ∷ []) ((v 0 ⊗ lit (pos (2 ^ 60))) ⊗ (v 1 ⊗ v 2)) ((v 0 ⊗ v 1 ⊗ v 2) ⊗ lit (pos (2 ^ 60))) tt

-- a limit of B units of 1 / S, at the denominator d
pub limit_low : (B S d N : ℤ) → pos 0 ≤ℤ S → neg_ℤ (B *ℤ d) ≤ℤ N → (neg_ℤ (B *ℤ S) *ℤ d) ≤ℤ (N *ℤ S)
limit_low B S d N s0 h =
    let a : (neg_ℤ (B *ℤ d) *ℤ S) ≤ℤ (N *ℤ S) = le-mul (neg_ℤ (B *ℤ d)) N S s0 h in
    let e : neg_ℤ (B *ℤ S) *ℤ d ≡ neg_ℤ (B *ℤ d) *ℤ S = ring (B ∷ S ∷ d ∷ []) (minus (v 0 ⊗ v 1) ⊗ v 2) (minus (v 0 ⊗ v 2) ⊗ v 1) tt in
    rw e a

pub limit_high : (B S d N : ℤ) → pos 0 ≤ℤ S → N ≤ℤ (B *ℤ d) → (N *ℤ S) ≤ℤ ((B *ℤ S) *ℤ d)
limit_high B S d N s0 h =
    let a : (N *ℤ S) ≤ℤ ((B *ℤ d) *ℤ S) = le-mul N (B *ℤ d) S s0 h in
    let e : (B *ℤ S) *ℤ d ≡ (B *ℤ d) *ℤ S = ring (B ∷ S ∷ d ∷ []) ((v 0 ⊗ v 1) ⊗ v 2) ((v 0 ⊗ v 2) ⊗ v 1) tt in
    rw e a

-- an end that bounds a value of at most B at the denominator d is itself on the right side of the limit
pub below_limit : (e N B S : ℤ) (d : ℕ) → 0 < d → pos 0 ≤ℤ S → (e *ℤ pos d) ≤ℤ (N *ℤ S) → N ≤ℤ (B *ℤ pos d) → e ≤ℤ (B *ℤ S)
below_limit e N B S d d0 s0 p q =
    let a : (N *ℤ S) ≤ℤ ((B *ℤ S) *ℤ pos d) = limit_high B S (pos d) N s0 q in
    le-mul_cancel e (B *ℤ S) d d0 (omega (arith, lin))

pub above_limit : (e N B S : ℤ) (d : ℕ) → 0 < d → pos 0 ≤ℤ S → (N *ℤ S) ≤ℤ (e *ℤ pos d) → neg_ℤ (B *ℤ pos d) ≤ℤ N → neg_ℤ (B *ℤ S) ≤ℤ e
above_limit e N B S d d0 s0 p q =
    let a : (neg_ℤ (B *ℤ S) *ℤ pos d) ≤ℤ (N *ℤ S) = limit_low B S (pos d) N s0 q in
    le-mul_cancel (neg_ℤ (B *ℤ S)) e d d0 (omega (arith, lin))
