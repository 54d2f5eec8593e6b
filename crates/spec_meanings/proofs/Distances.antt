-- What coordinates, distances, separations and conditions mean.
use Rattle.std.proofs.Common.{ℕ, ◌*◌, ◌<◌, arith, ℤ, pos, negsuc, ◌-ℤ◌, ◌*ℤ◌, ◌≤ℤ◌, ◌<ℤ◌}
use Rattle.std.specs.Prelude.{◌↔◌}
use Rattle.std.proofs.Math.Nat.{mul-pos}
use Rattle.spec_numbers.proofs.Order.{lin}
use Rattle.spec_numbers.proofs.Whole.{nonneg-mul}
use Rattle.spec_text.specs.declared.decimals.Decimal.{Decimal}
use Rattle.spec_intervals.specs.Fraction.{Fraction}
use Rattle.spec_expressions.specs.Term.{Leaf, exact_of}
use Rattle.spec_events.specs.Functions.{IsNotNegative, IsNegative}
use Rattle.spec_kinds.specs.declared.kind.Kind.TheVariants as K
use Rattle.spec_kinds.specs.Shadows.{farther, larger}
use Rattle.spec_kinds.specs.Kinds.{kind_function}
use Rattle.spec_meanings.specs.Space.{along, dot, square}
use Rattle.spec_meanings.specs.Scenes.{Scene, Shows, IsLong, IsCosineOf}
use Rattle.spec_meanings.specs.Polynomials.{separation}
use Rattle.spec_meanings.specs.Angles.{IsFrom, IsNoFarther, IsNoSmaller, AreWithin}
use Rattle.spec_meanings.proofs.Signs.{not_negative, negative}
use Rattle.spec_meanings.proofs.Rows.{coordinate_row, radius_row, separation_row, farther_row, larger_row}
use Rattle.spec_meanings.proofs.Rays.{square_low}
use Rattle.spec_meanings.proofs.Angles.{within_is, is_within}

order_of : (a b : ℤ) → (pos 0 ≤ℤ (a -ℤ b)) ↔ (b ≤ℤ a)
order_of a b = (λ h. omega (arith, lin), λ h. omega (arith, lin))

within_means : (s : Scene) (c : ℤ) (d : ℕ) → 0 < d → (pos 0 ≤ℤ separation s c d) ↔ AreWithin s.target s.second c d
within_means s c d h = (there c, back c)
  where
    g0 : pos 0 ≤ℤ (square s.target *ℤ square s.second)
    g0 = nonneg-mul (square s.target) (square s.second) (square_low s.target) (square_low s.second)

    there : (c : ℤ) → pos 0 ≤ℤ separation s c d → AreWithin s.target s.second c d
    there (pos c) p = within_is (square s.target *ℤ square s.second) (d * d) g0 (mul-pos h h) (dot s.target s.second) (pos c) p
    there (negsuc c) p = within_is (square s.target *ℤ square s.second) (d * d) g0 (mul-pos h h) (dot s.target s.second) (negsuc c) p

    back : (c : ℤ) → AreWithin s.target s.second c d → pos 0 ≤ℤ separation s c d
    back (pos c) p = is_within (square s.target *ℤ square s.second) (d * d) g0 (mul-pos h h) (dot s.target s.second) (pos c) p
    back (negsuc c) p = is_within (square s.target *ℤ square s.second) (d * d) g0 (mul-pos h h) (dot s.target s.second) (negsuc c) p

module _ (exact : Leaf → ℤ → Fraction) (t : ℤ) (s : Scene) (shows : Shows exact t s) where
  pub coordinate_means : (axis : ℕ) (one other : Decimal) (n : ℤ) → axis < 3 → IsLong s one n → IsNotNegative (exact_of exact (kind_function K.Coord axis one other)) t ↔ (n ≤ℤ along s.target axis)
  coordinate_means axis one other n h p =
      let f = not_negative (coordinate_row exact t s shows axis one other n h p) in
      let g = order_of (along s.target axis) n in
      (λ x. g.0 (f.0 x), λ x. f.1 (g.1 x))

  pub radius_means : (axis : ℕ) (one other : Decimal) (n : ℤ) → IsLong s one n → IsNotNegative (exact_of exact (kind_function K.Radius axis one other)) t ↔ IsFrom s.target n
  radius_means axis one other n p =
      let f = not_negative (radius_row exact t s shows axis one other n p) in
      let g = order_of (square s.target) (n *ℤ n) in
      (λ x. g.0 (f.0 x), λ x. f.1 (g.1 x))

  pub separation_means : (axis : ℕ) (one other : Decimal) (c : ℤ) (d : ℕ) → IsCosineOf one c d → IsNotNegative (exact_of exact (kind_function K.Sep axis one other)) t ↔ AreWithin s.target s.second c d
  separation_means axis one other c d p =
      let f = not_negative (separation_row exact t s shows axis one other c d p) in
      let g = within_means s c d p.positive in
      (λ x. g.0 (f.0 x), λ x. f.1 (g.1 x))

  pub farther_means : IsNotNegative (exact_of exact farther) t ↔ IsNoFarther s.target s.second
  farther_means =
      let f = not_negative (farther_row exact t s shows) in
      let g = order_of (square s.second) (square s.target) in
      (λ x. g.0 (f.0 x), λ x. f.1 (g.1 x))

  pub larger_means : (front back : Decimal) (r q : ℤ) → IsLong s front r → IsLong s back q → IsNotNegative (exact_of exact (larger front back)) t ↔ IsNoSmaller s.target r s.second q
  larger_means front back r q p g =
      let f = not_negative (larger_row exact t s shows front back r q p g) in
      let h = order_of ((r *ℤ r) *ℤ square s.second) ((q *ℤ q) *ℤ square s.target) in
      (λ x. h.0 (f.0 x), λ x. f.1 (h.1 x))

  pub smaller_means : (front back : Decimal) (r q : ℤ) → IsLong s front r → IsLong s back q → IsNegative (exact_of exact (larger front back)) t ↔ (((r *ℤ r) *ℤ square s.second) <ℤ ((q *ℤ q) *ℤ square s.target))
  smaller_means front back r q p g =
      let f = negative (larger_row exact t s shows front back r q p g) in
      (λ x. let y : ((r *ℤ r) *ℤ square s.second -ℤ (q *ℤ q) *ℤ square s.target) <ℤ pos 0 = f.0 x in omega (arith, lin), λ x. f.1 (omega (arith, lin)))
