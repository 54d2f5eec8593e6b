-- What is known of a quadratic polynomial over a span is so.
use Rattle.std.proofs.Common.{◌≡◌, ◌⊎◌, inl, inr, Bool, true, false, ◌&&◌, int_le, int_lt, [], ◌∷◌, ℤ, pos, neg_ℤ, ◌+ℤ◌, ◌-ℤ◌, ◌*ℤ◌, ◌≤ℤ◌, ◌<ℤ◌, refl, arith}
use Rattle.std.specs.Prelude.{if◌then◌else◌}
use Rattle.std.specs.Int.{int_min, int_max}
use Rattle.std.proofs.lemmas.Int.{ints}
use Rattle.spec_numbers.proofs.Order.{lin, le-mul, nonneg-square, min_first, min_second}
use Rattle.spec_numbers.proofs.Corners.{corner_low, corner_high}
use Rattle.spec_numbers.proofs.Ring.{v, k as lit, ◌⊕◌, ◌⊖◌, ◌⊗◌, minus, ring}
use Rattle.spec_scalars.specs.Scalars.{IsReach, KeepsReach}
use Rattle.spec_scalars.specs.Quads.{Quadratic, greatest_square, least_square, quad_at, quad_high, quad_low, quad_reach, quad_scalar, quad_step}

max_first : (x y : ℤ) → x ≤ℤ int_max x y
max_first x y = grind (arith, ints)

max_second : (x y : ℤ) → y ≤ℤ int_max x y
max_second x y = grind (arith, ints)

-- x times what lies from c to d
product_low : (x c d y : ℤ) → c ≤ℤ y → y ≤ℤ d → int_min (x *ℤ c) (x *ℤ d) ≤ℤ (x *ℤ y)
product_low x c d y p q =
    let one = min_first (x *ℤ c) (x *ℤ d) in
    let two = min_second (x *ℤ c) (x *ℤ d) in
    corner_low (int_min (x *ℤ c) (x *ℤ d)) x x c d x y (omega (arith, ints)) (omega (arith, ints)) p q one two one two

product_high : (x c d y : ℤ) → c ≤ℤ y → y ≤ℤ d → (x *ℤ y) ≤ℤ int_max (x *ℤ c) (x *ℤ d)
product_high x c d y p q =
    let one = max_first (x *ℤ c) (x *ℤ d) in
    let two = max_second (x *ℤ c) (x *ℤ d) in
    corner_high (int_max (x *ℤ c) (x *ℤ d)) x x c d x y (omega (arith, ints)) (omega (arith, ints)) p q one two one two

-- ---- squares
-- 2 a b is no more than both squares together
crossed : (a b : ℤ) → (a *ℤ b) ≤ℤ greatest_square a b
crossed a b =
    let square = nonneg-square (a -ℤ b) in
    let e : (a -ℤ b) *ℤ (a -ℤ b) ≡ (a *ℤ a +ℤ b *ℤ b) -ℤ (a *ℤ b +ℤ a *ℤ b) = ring (a ∷ b ∷ []) ((v 0 ⊖ v 1) ⊗ (v 0 ⊖ v 1)) ((v 0 ⊗ v 0 ⊕ v 1 ⊗ v 1) ⊖ (v 0 ⊗ v 1 ⊕ v 0 ⊗ v 1)) tt in
    let one = max_first (a *ℤ a) (b *ℤ b) in
    let two = max_second (a *ℤ a) (b *ℤ b) in
    half (a *ℤ b) (a *ℤ a) (b *ℤ b) (int_max (a *ℤ a) (b *ℤ b)) ((a -ℤ b) *ℤ (a -ℤ b)) square e one two
  where
    half : (x y z m square : ℤ) → pos 0 ≤ℤ square → square ≡ (y +ℤ z) -ℤ (x +ℤ x) → y ≤ℤ m → z ≤ℤ m → x ≤ℤ m
    half x y z m square p e one two = omega (arith, lin)

greatest_is : (a b t : ℤ) → a ≤ℤ t → t ≤ℤ b → (t *ℤ t) ≤ℤ greatest_square a b
greatest_is a b t p q =
    let e : b *ℤ a ≡ a *ℤ b = ring (a ∷ b ∷ []) (v 1 ⊗ v 0) (v 0 ⊗ v 1) tt in
    let mixed = crossed a b in
    corner_high (greatest_square a b) a b a b t t p q p q (max_first (a *ℤ a) (b *ℤ b)) mixed (rw e mixed) (max_second (a *ℤ a) (b *ℤ b))

-- squares grow away from 0
grows : (a t : ℤ) → pos 0 ≤ℤ a → a ≤ℤ t → (a *ℤ a) ≤ℤ (t *ℤ t)
grows a t p q =
    let one : (a *ℤ a) ≤ℤ (t *ℤ a) = le-mul a t a p q in
    let two : (a *ℤ t) ≤ℤ (t *ℤ t) = le-mul a t t (omega (arith, ints, p, q)) q in
    let e : t *ℤ a ≡ a *ℤ t = ring (a ∷ t ∷ []) (v 1 ⊗ v 0) (v 0 ⊗ v 1) tt in
    omega (arith, lin)

grows_down : (b t : ℤ) → b ≤ℤ pos 0 → t ≤ℤ b → (b *ℤ b) ≤ℤ (t *ℤ t)
grows_down b t p q =
    let same : (z : ℤ) → neg_ℤ z *ℤ neg_ℤ z ≡ z *ℤ z = λ z. ring (z ∷ []) (minus (v 0) ⊗ minus (v 0)) (v 0 ⊗ v 0) tt in
    let e = same b in
    let f = same t in
    let h = grows (neg_ℤ b) (neg_ℤ t) (omega (arith, ints, p)) (omega (arith, ints, q)) in
    omega (arith, lin)

side : (a b : ℤ) → (int_le a (pos 0) && int_le (pos 0) b) ≡ false → a ≤ℤ b → (pos 0 ≤ℤ a) ⊎ (b ≤ℤ pos 0)
side a b e h = grind (arith, ints)

least_is : (a b t : ℤ) → a ≤ℤ t → t ≤ℤ b → least_square a b ≤ℤ (t *ℤ t)
least_is a b t p q = by (int_le a (pos 0) && int_le (pos 0) b) refl
  where
    ordered : a ≤ℤ b
    ordered = omega (arith, ints, p, q)

    by_side : (pos 0 ≤ℤ a) ⊎ (b ≤ℤ pos 0) → int_min (a *ℤ a) (b *ℤ b) ≤ℤ (t *ℤ t)
    by_side (inl h) =
        let one = min_first (a *ℤ a) (b *ℤ b) in
        let two = grows a t h p in
        omega (arith, lin)
    by_side (inr h) =
        let one = min_second (a *ℤ a) (b *ℤ b) in
        let two = grows_down b t h q in
        omega (arith, lin)

    by : (zero_inside : Bool) → (int_le a (pos 0) && int_le (pos 0) b) ≡ zero_inside → (if zero_inside then pos 0 else int_min (a *ℤ a) (b *ℤ b)) ≤ℤ (t *ℤ t)
    by true e = nonneg-square t
    by false e = by_side (side a b e ordered)

-- ---- the step
step_is : (k : Quadratic) (t : ℤ) → quad_at k (t +ℤ pos 1) -ℤ quad_at k t ≡ quad_step k t
step_is k t =
    ring (k.p ∷ k.q ∷ k.r ∷ t ∷ [])
    (((v 0 ⊗ ((v 3 ⊕ lit (pos 1)) ⊗ (v 3 ⊕ lit (pos 1))) ⊕ v 1 ⊗ (v 3 ⊕ lit (pos 1))) ⊕ v 2) ⊖ ((v 0 ⊗ (v 3 ⊗ v 3) ⊕ v 1 ⊗ v 3) ⊕ v 2))
    (v 0 ⊗ (lit (pos 2) ⊗ v 3 ⊕ lit (pos 1)) ⊕ v 1) tt

abbrev odd : ℤ → ℤ
odd t = pos 2 *ℤ t +ℤ pos 1

shifted_min : (x y z : ℤ) → int_min (x +ℤ z) (y +ℤ z) ≡ int_min x y +ℤ z
shifted_min x y z = grind (arith, ints)

shifted_max : (x y z : ℤ) → int_max (x +ℤ z) (y +ℤ z) ≡ int_max x y +ℤ z
shifted_max x y z = grind (arith, ints)

module _ (k : Quadratic) (a b : ℤ) where
  low_at : (t : ℤ) → a ≤ℤ t → t ≤ℤ b → quad_low k a b ≤ℤ quad_at k t
  low_at t p q =
      let square = product_low k.p (least_square a b) (greatest_square a b) (t *ℤ t) (least_is a b t p q) (greatest_is a b t p q) in
      let line = product_low k.q a b t p q in
      omega (arith, lin)

  high_at : (t : ℤ) → a ≤ℤ t → t ≤ℤ b → quad_at k t ≤ℤ quad_high k a b
  high_at t p q =
      let square = product_high k.p (least_square a b) (greatest_square a b) (t *ℤ t) (least_is a b t p q) (greatest_is a b t p q) in
      let line = product_high k.q a b t p q in
      omega (arith, lin)

  step_low_at : (t : ℤ) → a ≤ℤ t → t <ℤ b → int_min (quad_step k a) (quad_step k (b -ℤ pos 1)) ≤ℤ (quad_at k (t +ℤ pos 1) -ℤ quad_at k t)
  step_low_at t p q =
      let line = product_low k.p (odd a) (odd (b -ℤ pos 1)) (odd t) (omega (arith, ints, p)) (omega (arith, ints, q)) in
      let shift = shifted_min (k.p *ℤ odd a) (k.p *ℤ odd (b -ℤ pos 1)) k.q in
      rw (step_is k t, shift) (omega (arith, lin))

  step_high_at : (t : ℤ) → a ≤ℤ t → t <ℤ b → (quad_at k (t +ℤ pos 1) -ℤ quad_at k t) ≤ℤ int_max (quad_step k a) (quad_step k (b -ℤ pos 1))
  step_high_at t p q =
      let line = product_high k.p (odd a) (odd (b -ℤ pos 1)) (odd t) (omega (arith, ints, p)) (omega (arith, ints, q)) in
      let shift = shifted_max (k.p *ℤ odd a) (k.p *ℤ odd (b -ℤ pos 1)) k.q in
      rw (step_is k t, shift) (omega (arith, lin))

  wide : (t : ℤ) → a ≤ℤ t → t <ℤ b → int_lt a b ≡ true
  wide t p q = grind (arith, ints)

  pub quad_within : IsReach (quad_at k) a b (quad_reach k a b)
  quad_within = record {
    low = low_at;
    high = high_at;
    step_low = λ t p q. rw (wide t p q) (step_low_at t p q);
    step_high = λ t p q. rw (wide t p q) (step_high_at t p q);
  }

-- and so over each span of its times
pub quads_keep_reach : (k : Quadratic) → KeepsReach (quad_scalar k)
quads_keep_reach k a b from ordered upto = quad_within k a b
