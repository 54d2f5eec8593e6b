-- Products keep inclusion: the ends of the inner factors lie between those of the outer ones, brought to their units.
use Rattle.std.proofs.Common.{◌≡◌, ℕ, ◌+◌, ◌^◌, arith, refl, ap, ◌∙◌, ℤ, pos, ◌+ℤ◌, ◌*ℤ◌, ◌≤ℤ◌, true, ◌&&◌, inl, inr}
use Rattle.std.proofs.lemmas.Int.{ints, clamps}
use Rattle.std.proofs.lemmas.Nat.{pow_pos}
use Rattle.std.proofs.Math.IntN.{zero-*ℤ, *ℤ-zero}
use Rattle.std.specs.Int.{int_min, int_max}
use Rattle.spec_numbers.proofs.Order.{lin, le-mul_cancel}
use Rattle.spec_numbers.proofs.Corners.{corner_low, corner_high}
use Rattle.spec_intervals.specs.Interval.{Interval, interval, least4, greatest4, product, zero_end}
use Rattle.spec_intervals.proofs.Products.{least4-le, greatest4-ge, powers, corners_ordered}
use Rattle.spec_intervals.proofs.Narrow.{zero_ends}
use Rattle.spec_models.specs.Inclusion.{Spans, HoldsZero, Includes}
use Rattle.spec_models.proofs.Spans.{scaled_le}
use Rattle.spec_models.proofs.NarrowedInclusions.{Includes-narrow}

-- all four products of ends, not yet narrowed
abbrev corners : Interval → Interval → Interval
corners x y = interval (least4 x.lo x.hi y.lo y.hi) (greatest4 x.lo x.hi y.lo y.hi) (x.s +ℤ y.s)

-- what includes ends in order has ends in order
pub Includes-ordered : (y x : Interval) → x.lo ≤ℤ x.hi → Includes y x → y.lo ≤ℤ y.hi
Includes-ordered y x o (inl s) =
    let a = s.low in
    let b = s.high in
    le-mul_cancel y.lo y.hi (2 ^ s.gap) (pow_pos s.gap) (omega (arith, lin))
Includes-ordered y x o (inr h) = let a = h.low in let b = h.high in omega (arith, lin)

-- a bound of four numbers is a bound of the least and of the greatest of them
pub below_least : (m p q r s : ℤ) → m ≤ℤ p → m ≤ℤ q → m ≤ℤ r → m ≤ℤ s → m ≤ℤ int_min (int_min p q) (int_min r s)
below_least m p q r s a b c d = omega (arith, ints, clamps)

pub above_greatest : (m p q r s : ℤ) → p ≤ℤ m → q ≤ℤ m → r ≤ℤ m → s ≤ℤ m → int_max (int_max p q) (int_max r s) ≤ℤ m
above_greatest m p q r s a b c d = omega (arith, ints, clamps)

-- ---- a to b in units that are 2^g times those of x, c to d in units that are 2^h times those of y
module _ (a b c d x y : ℤ) (g h : ℕ)
    (p : (a *ℤ pos (2 ^ g)) ≤ℤ x) (q : x ≤ℤ (b *ℤ pos (2 ^ g)))
    (r : (c *ℤ pos (2 ^ h)) ≤ℤ y) (s : y ≤ℤ (d *ℤ pos (2 ^ h))) where
  scaled_low : (m e f : ℤ) → m ≤ℤ (e *ℤ f) → (m *ℤ pos (2 ^ (g + h))) ≤ℤ ((e *ℤ pos (2 ^ g)) *ℤ (f *ℤ pos (2 ^ h)))
  scaled_low m e f l = rw (powers e f g h) (scaled_le m (e *ℤ f) (g + h) l)

  scaled_high : (m e f : ℤ) → (e *ℤ f) ≤ℤ m → ((e *ℤ pos (2 ^ g)) *ℤ (f *ℤ pos (2 ^ h))) ≤ℤ (m *ℤ pos (2 ^ (g + h)))
  scaled_high m e f l = rw (powers e f g h) (scaled_le (e *ℤ f) m (g + h) l)

  product_low : (least4 a b c d *ℤ pos (2 ^ (g + h))) ≤ℤ (x *ℤ y)
  product_low =
      let l = least4-le a b c d in
      corner_low _ (a *ℤ pos (2 ^ g)) (b *ℤ pos (2 ^ g)) (c *ℤ pos (2 ^ h)) (d *ℤ pos (2 ^ h)) x y p q r s
      (scaled_low _ a c l.0) (scaled_low _ a d l.1) (scaled_low _ b c l.2) (scaled_low _ b d l.3)

  product_high : (x *ℤ y) ≤ℤ (greatest4 a b c d *ℤ pos (2 ^ (g + h)))
  product_high =
      let l = greatest4-ge a b c d in
      corner_high _ (a *ℤ pos (2 ^ g)) (b *ℤ pos (2 ^ g)) (c *ℤ pos (2 ^ h)) (d *ℤ pos (2 ^ h)) x y p q r s
      (scaled_high _ a c l.0) (scaled_high _ a d l.1) (scaled_high _ b c l.2) (scaled_high _ b d l.3)

-- both ends of an interval lie in what spans it
record BothWithin (y x : Interval) (g : ℕ) : Type 0 where
  lo_low : (y.lo *ℤ pos (2 ^ g)) ≤ℤ x.lo
  lo_high : x.lo ≤ℤ (y.hi *ℤ pos (2 ^ g))
  hi_low : (y.lo *ℤ pos (2 ^ g)) ≤ℤ x.hi
  hi_high : x.hi ≤ℤ (y.hi *ℤ pos (2 ^ g))

both_within : (y x : Interval) → x.lo ≤ℤ x.hi → (s : Spans y x) → BothWithin y x s.gap
both_within y x o s =
    let a = s.low in
    let b = s.high in
    record { lo_low = a; lo_high = omega (arith, lin); hi_low = omega (arith, lin); hi_high = b }

corners_spanned : (p q x y : Interval) → x.lo ≤ℤ x.hi → y.lo ≤ℤ y.hi → Spans p x → Spans q y
    → Spans (corners p q) (corners x y)
corners_spanned p q x y o u s t =
    let a = both_within p x o s in
    let b = both_within q y u t in
    let e = s.exponent in
    let f = t.exponent in
    let low = product_low p.lo p.hi q.lo q.hi in
    let high = product_high p.lo p.hi q.lo q.hi in
    record {
      gap = s.gap + t.gap;
      exponent = omega (arith, lin);
      low = below_least _ (x.lo *ℤ y.lo) (x.lo *ℤ y.hi) (x.hi *ℤ y.lo) (x.hi *ℤ y.hi)
          (low x.lo y.lo s.gap t.gap a.lo_low a.lo_high b.lo_low b.lo_high)
          (low x.lo y.hi s.gap t.gap a.lo_low a.lo_high b.hi_low b.hi_high)
          (low x.hi y.lo s.gap t.gap a.hi_low a.hi_high b.lo_low b.lo_high)
          (low x.hi y.hi s.gap t.gap a.hi_low a.hi_high b.hi_low b.hi_high);
      high = above_greatest _ (x.lo *ℤ y.lo) (x.lo *ℤ y.hi) (x.hi *ℤ y.lo) (x.hi *ℤ y.hi)
          (high x.lo y.lo s.gap t.gap a.lo_low a.lo_high b.lo_low b.lo_high)
          (high x.lo y.hi s.gap t.gap a.lo_low a.lo_high b.hi_low b.hi_high)
          (high x.hi y.lo s.gap t.gap a.hi_low a.hi_high b.lo_low b.lo_high)
          (high x.hi y.hi s.gap t.gap a.hi_low a.hi_high b.hi_low b.hi_high);
    }

-- ---- a product with 0 alone
-- where 0 is a product of numbers between the ends, it lies between the products of ends
holds_product : (a b c d x y : ℤ) → a ≤ℤ x → x ≤ℤ b → c ≤ℤ y → y ≤ℤ d → x *ℤ y ≡ pos 0
    → (least4 a b c d ≤ℤ pos 0) × (pos 0 ≤ℤ greatest4 a b c d)
holds_product a b c d x y p q r s e =
    let l = least4-le a b c d in
    let g = greatest4-ge a b c d in
    let low = corner_low (least4 a b c d) a b c d x y p q r s l.0 l.1 l.2 l.3 in
    let high = corner_high (greatest4 a b c d) a b c d x y p q r s g.0 g.1 g.2 g.3 in
    (omega (arith, lin), omega (arith, lin))

-- where all products of ends are 0, so are the least and the greatest
all_zero : (p q r s : ℤ) → p ≡ pos 0 → q ≡ pos 0 → r ≡ pos 0 → s ≡ pos 0
    → (zero_end (int_min (int_min p q) (int_min r s)) && zero_end (int_max (int_max p q) (int_max r s))) ≡ true
all_zero p q r s a b c d = rw (a, b, c, d) refl

first_zero : (p q x y : Interval) → q.lo ≤ℤ q.hi → HoldsZero p x → HoldsZero (corners p q) (corners x y)
first_zero p q x y o h =
    let e = zero_ends x.lo x.hi h.zero in
    let none = λ (w z : ℤ) (i : w ≡ pos 0). ap (λ n. n *ℤ z) i ∙ zero-*ℤ z in
    let w = holds_product p.lo p.hi q.lo q.hi (pos 0) q.lo h.low h.high (omega (arith, lin)) o (zero-*ℤ q.lo) in
    let zero = all_zero _ _ _ _ (none x.lo y.lo e.0) (none x.lo y.hi e.0) (none x.hi y.lo e.1) (none x.hi y.hi e.1) in
    record { zero = zero; low = w.0; high = w.1 }

second_zero : (p q x y : Interval) → p.lo ≤ℤ p.hi → HoldsZero q y → HoldsZero (corners p q) (corners x y)
second_zero p q x y o h =
    let e = zero_ends y.lo y.hi h.zero in
    let none = λ (z w : ℤ) (i : w ≡ pos 0). ap (λ n. z *ℤ n) i ∙ *ℤ-zero z in
    let w = holds_product p.lo p.hi q.lo q.hi p.lo (pos 0) (omega (arith, lin)) o h.low h.high (*ℤ-zero p.lo) in
    let zero = all_zero _ _ _ _ (none x.lo y.lo e.0) (none x.lo y.hi e.1) (none x.hi y.lo e.0) (none x.hi y.hi e.1) in
    record { zero = zero; low = w.0; high = w.1 }

Includes-corners : (p q x y : Interval) → x.lo ≤ℤ x.hi → y.lo ≤ℤ y.hi → Includes p x → Includes q y
    → Includes (corners p q) (corners x y)
Includes-corners p q x y o u (inl s) (inl t) = inl (corners_spanned p q x y o u s t)
Includes-corners p q x y o u (inr h) i = inr (first_zero p q x y (Includes-ordered q y u i) h)
Includes-corners p q x y o u (inl s) (inr h) = inr (second_zero p q x y (Includes-ordered p x o (inl s)) h)

pub Includes-product : (p q x y : Interval) → x.lo ≤ℤ x.hi → y.lo ≤ℤ y.hi → Includes p x → Includes q y
    → Includes (product p q) (product x y)
unfolding product
Includes-product p q x y o u i j =
    Includes-narrow (corners p q) (corners x y) (corners_ordered x.lo x.hi y.lo y.hi) (Includes-corners p q x y o u i j)
