-- What the axes of the ecliptic frame are.
use Rattle.std.proofs.Common.{◌≡◌, ℕ, ◌*◌, ◌^◌, ◌≤◌, arith, refl, [], ◌∷◌, ℤ, pos, ◌+ℤ◌, ◌-ℤ◌, ◌*ℤ◌, unsigned_abs}
use Rattle.spec_numbers.proofs.Ring.{v, ◌⊕◌, ◌⊖◌, ◌⊗◌, ring}
use Rattle.spec_text.specs.declared.decimals.Decimal.{Decimal}
use Rattle.spec_intervals.specs.Fraction.{Fraction}
use Rattle.spec_bodies.specs.declared.factor.Factor.TheVariants.{Cosine, Sine}
use Rattle.spec_bodies.specs.declared.frame.Frame.TheVariants.{Ecl}
use Rattle.spec_bodies.specs.Coordinates.{Coordinate, in_frame}
use Rattle.spec_bodies.specs.Meanings.{factor}
use Rattle.spec_meanings.specs.Ratios.{IsRatio}
use Rattle.spec_meanings.specs.Frames.{coordinate_value, obliquity_cosine, obliquity_sine, squares}
use Rattle.spec_meanings.proofs.Ratios.{sum_ratio, difference_ratio, product_ratio}

cosine_ratio : (ratio : Decimal) → IsRatio (factor ratio Cosine) obliquity_cosine (10 ^ 15)
cosine_ratio ratio = record { is_fraction = omega arith; positive = omega arith; equal = refl }

sine_ratio : (ratio : Decimal) → IsRatio (factor ratio Sine) obliquity_sine (10 ^ 15)
sine_ratio ratio = record { is_fraction = omega arith; positive = omega arith; equal = refl }

pub first_axis : (column : ℕ → ℕ → ℤ → Fraction) (ratio : Decimal) (own : ℕ → Coordinate) (t : ℤ) → coordinate_value column (factor ratio) (in_frame Ecl own 0) t ≡ coordinate_value column (factor ratio) (own 0) t
first_axis column ratio own t = refl

pub turned_axes : (column : ℕ → ℕ → ℤ → Fraction) (ratio : Decimal) (own : ℕ → Coordinate) (t y z : ℤ) (d : ℕ) → IsRatio (coordinate_value column (factor ratio) (own 1) t) y d → IsRatio (coordinate_value column (factor ratio) (own 2) t) z d → IsRatio (coordinate_value column (factor ratio) (in_frame Ecl own 1) t) (obliquity_cosine *ℤ y +ℤ obliquity_sine *ℤ z) (10 ^ 15 * d) × IsRatio (coordinate_value column (factor ratio) (in_frame Ecl own 2) t) (obliquity_cosine *ℤ z -ℤ obliquity_sine *ℤ y) (10 ^ 15 * d)
turned_axes column ratio own t y z d p q =
    (sum_ratio (product_ratio (cosine_ratio ratio) p) (product_ratio (sine_ratio ratio) q), difference_ratio (product_ratio (cosine_ratio ratio) q) (product_ratio (sine_ratio ratio) p))

pub lengths : (y z : ℤ) → squares (obliquity_cosine *ℤ y +ℤ obliquity_sine *ℤ z) (obliquity_cosine *ℤ z -ℤ obliquity_sine *ℤ y) ≡ squares obliquity_cosine obliquity_sine *ℤ squares y z
lengths y z =
    ring (obliquity_cosine ∷ obliquity_sine ∷ y ∷ z ∷ []) ((v 0 ⊗ v 2 ⊕ v 1 ⊗ v 3) ⊗ (v 0 ⊗ v 2 ⊕ v 1 ⊗ v 3) ⊕ (v 0 ⊗ v 3 ⊖ v 1 ⊗ v 2) ⊗ (v 0 ⊗ v 3 ⊖ v 1 ⊗ v 2)) ((v 0 ⊗ v 0 ⊕ v 1 ⊗ v 1) ⊗ (v 2 ⊗ v 2 ⊕ v 3 ⊗ v 3)) tt

pub near_1 : unsigned_abs (squares obliquity_cosine obliquity_sine -ℤ pos (10 ^ 30)) ≤ 10 ^ 15
near_1 = omega arith
