-- How near products and signed squares are: nothing is lost but by narrowing.
use Rattle.std.proofs.Common.{◌≡◌, ◌⊎◌, ℕ, ◌+◌, ◌*◌, ◌^◌, ◌≤◌, max, arith, refl, sym, ap, ◌∙◌, [], ◌∷◌, ℤ, pos, ◌+ℤ◌, ◌*ℤ◌, unsigned_abs, inl, inr}
use Rattle.std.proofs.lemmas.Nat.{pow-add}
use Rattle.std.specs.Int.{int_min, int_max}
use borrow.Author.Differences.{up, down}
use Rattle.spec_numbers.proofs.Ring.{v, ◌⊗◌, ring}
use Rattle.spec_numbers.proofs.Order.{lin, min_is, max_is}
use Rattle.spec_numbers.proofs.Sizes.{four_sizes, product_size}
use Rattle.spec_intervals.specs.Interval.{Interval, least4, greatest4, product, signed_sq, signed_square}
use Rattle.spec_intervals.specs.Fraction.{fraction_mul, fraction_signed_square}
use Rattle.spec_intervals.proofs.Squares.{signed_sq-scaled}
use Rattle.spec_models.specs.Ends.{in_units, low, high, greatest_end, size, slight, Under, Over, low_low, low_high, high_low, high_high, IsCorner, IsCornerUnder, IsCornerOver}
use Rattle.spec_models.proofs.Near.{IsRatio, IsAllowed}
use Rattle.spec_models.proofs.NarrowedRoundings.{slight_allowed, exact_under, exact_over}

-- ---- a product of two numbers of units
product_powers : (s t : ℤ) → 2 ^ up s * 2 ^ up t * 2 ^ down (s +ℤ t) ≡ 2 ^ up (s +ℤ t) * (2 ^ down s * 2 ^ down t)
product_powers s t =
    let sums : up s + up t + down (s +ℤ t) ≡ up (s +ℤ t) + (down s + down t) = omega (arith, lin) in
    ap (λ n. n * 2 ^ down (s +ℤ t)) (sym (pow-add 2 (up s) (up t))) ∙
    (sym (pow-add 2 (up s + up t) (down (s +ℤ t))) ∙
    (ap (λ n. 2 ^ n) sums ∙
    (pow-add 2 (up (s +ℤ t)) (down s + down t) ∙ ap (λ n. 2 ^ up (s +ℤ t) * n) (pow-add 2 (down s) (down t)))))

product_is_ratio : (a c s t : ℤ) (b : ℕ) → IsRatio (fraction_mul (in_units a s) (in_units c t)) (a *ℤ c *ℤ pos b) (s +ℤ t) b
product_is_ratio a c s t b =
    ring (a ∷ c ∷ pos b ∷ pos (2 ^ up s) ∷ pos (2 ^ up t) ∷ pos (2 ^ down (s +ℤ t)) ∷ [])
    (v 0 ⊗ v 3 ⊗ (v 1 ⊗ v 4) ⊗ (v 5 ⊗ v 2))
    (v 0 ⊗ v 1 ⊗ v 2 ⊗ (v 3 ⊗ v 4 ⊗ v 5)) tt ∙
    ap (λ n. a *ℤ c *ℤ pos b *ℤ pos n) (product_powers s t)

-- ---- products
-- no product of ends is past that of the greatest sizes
corners_bounded : (x y : Interval)
    → max (unsigned_abs (least4 x.lo x.hi y.lo y.hi)) (unsigned_abs (greatest4 x.lo x.hi y.lo y.hi))
    ≤ greatest_end x * greatest_end y
corners_bounded x y =
    let size = λ (a c : ℤ). product_size a c (greatest_end x) (greatest_end y) in
    let f = four_sizes (x.lo *ℤ y.lo) (x.lo *ℤ y.hi) (x.hi *ℤ y.lo) (x.hi *ℤ y.hi) (greatest_end x * greatest_end y)
    (size x.lo y.lo (omega arith) (omega arith)) (size x.lo y.hi (omega arith) (omega arith))
    (size x.hi y.lo (omega arith) (omega arith)) (size x.hi y.hi (omega arith) (omega arith)) in
    omega arith

product_allowed : (x y : Interval)
    → IsAllowed (slight (fraction_mul (size x) (size y))) (pos (greatest_end x * greatest_end y)) (x.s +ℤ y.s) (2 ^ 58)
product_allowed x y =
    slight_allowed (fraction_mul (size x) (size y)) (pos (greatest_end x * greatest_end y)) (x.s +ℤ y.s)
    (product_is_ratio (pos (greatest_end x)) (pos (greatest_end y)) x.s y.s (2 ^ 58))

module _ (x y : Interval) (a c : ℤ) where
  product_under : least4 x.lo x.hi y.lo y.hi ≡ a *ℤ c
      → Under (slight (fraction_mul (size x) (size y))) (low (product x y)) (fraction_mul (in_units a x.s) (in_units c y.s))
  unfolding product
  product_under e =
      exact_under (least4 x.lo x.hi y.lo y.hi) (greatest4 x.lo x.hi y.lo y.hi) (x.s +ℤ y.s)
      (greatest_end x * greatest_end y) _ _
      (corners_bounded x y) (product_allowed x y) (rw e (product_is_ratio a c x.s y.s (2 ^ 58)))

  product_over : greatest4 x.lo x.hi y.lo y.hi ≡ a *ℤ c
      → Over (slight (fraction_mul (size x) (size y))) (high (product x y)) (fraction_mul (in_units a x.s) (in_units c y.s))
  unfolding product
  product_over e =
      exact_over (least4 x.lo x.hi y.lo y.hi) (greatest4 x.lo x.hi y.lo y.hi) (x.s +ℤ y.s) (greatest_end x * greatest_end y) _ _
      (corners_bounded x y) (product_allowed x y) (rw e (product_is_ratio a c x.s y.s (2 ^ 58)))

-- whichever of two numbers is chosen each time, of the four products of ends one is
module _ (choice : ℤ → ℤ → ℤ) (one : (p q : ℤ) → (choice p q ≡ p) ⊎ (choice p q ≡ q)) (x y : Interval) where
  abbrev chosen : ℤ
  chosen = choice (choice (x.lo *ℤ y.lo) (x.lo *ℤ y.hi)) (choice (x.hi *ℤ y.lo) (x.hi *ℤ y.hi))

  of_corner : {T : Type 0}
      → ((a c : ℤ) → IsCorner x y (fraction_mul (in_units a x.s) (in_units c y.s)) → chosen ≡ a *ℤ c → T) → T
  of_corner {T} made =
      by (one (choice (x.lo *ℤ y.lo) (x.lo *ℤ y.hi)) (choice (x.hi *ℤ y.lo) (x.hi *ℤ y.hi)))
      (one (x.lo *ℤ y.lo) (x.lo *ℤ y.hi)) (one (x.hi *ℤ y.lo) (x.hi *ℤ y.hi))
    where
      by : (chosen ≡ choice (x.lo *ℤ y.lo) (x.lo *ℤ y.hi)) ⊎ (chosen ≡ choice (x.hi *ℤ y.lo) (x.hi *ℤ y.hi))
          → (choice (x.lo *ℤ y.lo) (x.lo *ℤ y.hi) ≡ x.lo *ℤ y.lo) ⊎ (choice (x.lo *ℤ y.lo) (x.lo *ℤ y.hi) ≡ x.lo *ℤ y.hi)
          → (choice (x.hi *ℤ y.lo) (x.hi *ℤ y.hi) ≡ x.hi *ℤ y.lo) ⊎ (choice (x.hi *ℤ y.lo) (x.hi *ℤ y.hi) ≡ x.hi *ℤ y.hi)
          → T
      by (inl e) (inl f) g = made x.lo y.lo (low_low refl) (e ∙ f)
      by (inl e) (inr f) g = made x.lo y.hi (low_high refl) (e ∙ f)
      by (inr e) f (inl g) = made x.hi y.lo (high_low refl) (e ∙ g)
      by (inr e) f (inr g) = made x.hi y.hi (high_high refl) (e ∙ g)

pub product_corner_under : (x y : Interval) → IsCornerUnder (slight (fraction_mul (size x) (size y))) (product x y) x y
product_corner_under x y =
    of_corner int_min min_is x y
    (λ a c is e. record { corner = _; is_corner = is; under = product_under x y a c e })

pub product_corner_over : (x y : Interval) → IsCornerOver (slight (fraction_mul (size x) (size y))) (product x y) x y
product_corner_over x y =
    of_corner int_max max_is x y
    (λ a c is e. record { corner = _; is_corner = is; over = product_over x y a c e })

-- ---- signed squares
square_is_ratio : (z s : ℤ) (b : ℕ) → IsRatio (fraction_signed_square (in_units z s)) (signed_sq z *ℤ pos b) (s +ℤ s) b
square_is_ratio z s b =
    ap (λ w. w *ℤ pos (2 ^ down (s +ℤ s) * b)) (signed_sq-scaled z (2 ^ up s)) ∙
    (ring (signed_sq z ∷ pos b ∷ pos (2 ^ up s) ∷ pos (2 ^ down (s +ℤ s)) ∷ []) (v 0 ⊗ (v 2 ⊗ v 2) ⊗ (v 3 ⊗ v 1))
    (v 0 ⊗ v 1 ⊗ (v 2 ⊗ v 2 ⊗ v 3)) tt ∙
    ap (λ n. signed_sq z *ℤ pos b *ℤ pos n) (product_powers s s))

squares_bounded : (x : Interval) → max (unsigned_abs (signed_sq x.lo)) (unsigned_abs (signed_sq x.hi))
    ≤ greatest_end x * greatest_end x
squares_bounded x =
    let low = product_size x.lo (pos (unsigned_abs x.lo)) (greatest_end x) (greatest_end x) (omega arith) (omega arith) in
    let high = product_size x.hi (pos (unsigned_abs x.hi)) (greatest_end x) (greatest_end x) (omega arith) (omega arith) in
    omega arith

module _ (x : Interval) where
  pub square_under : Under (slight (fraction_mul (size x) (size x))) (low (signed_square x)) (fraction_signed_square (low x))
  unfolding signed_square
  square_under =
      exact_under (signed_sq x.lo) (signed_sq x.hi) (x.s +ℤ x.s) (greatest_end x * greatest_end x) _ _ (squares_bounded x)
      (product_allowed x x) (square_is_ratio x.lo x.s (2 ^ 58))

  pub square_over : Over (slight (fraction_mul (size x) (size x))) (high (signed_square x)) (fraction_signed_square (high x))
  unfolding signed_square
  square_over =
      exact_over (signed_sq x.lo) (signed_sq x.hi) (x.s +ℤ x.s) (greatest_end x * greatest_end x) _ _ (squares_bounded x)
      (product_allowed x x) (square_is_ratio x.hi x.s (2 ^ 58))
