-- Fourteen fractions have a common denominator: the product of theirs.
use Rattle.std.proofs.Common.{◌≡◌, ℕ, zero, suc, ◌*◌, ◌<◌, arith, refl, ap, sym, ◌∙◌, List, [], ◌∷◌, ℤ, pos, ◌*ℤ◌, ◌≤ℤ◌}
use Rattle.std.proofs.Math.Nat.{mul-pos, mul_assoc, mul_comm}
use Rattle.spec_numbers.proofs.Ring.{v, ◌⊗◌, ring}
use Rattle.spec_text.specs.declared.decimals.Decimal.{Decimal}
use Rattle.spec_intervals.specs.Fraction.{Fraction, IsFraction, decimal}
use Rattle.spec_expressions.specs.Term.{Leaf, position, velocity, IsLeaf}
use Rattle.spec_expressions.proofs.Induction.{IsFraction-decimal}
use Rattle.spec_bodies.specs.Views.{View, Fits, exact_state}
use Rattle.spec_bodies.proofs.Held.{fractions_of_states}
use Rattle.spec_meanings.specs.Ratios.{IsRatio}
use Rattle.spec_meanings.specs.Scenes.{Scene, Shows, HasScene}
use Rattle.spec_meanings.specs.Space.{Triple, along}

abbrev all_of : List ℕ → ℕ
all_of [] = 1
all_of (d ∷ ds) = d * all_of ds

abbrev one_of : List ℕ → ℕ → ℕ
one_of [] i = 1
one_of (d ∷ ds) zero = d
one_of (d ∷ ds) (suc i) = one_of ds i

abbrev others_of : List ℕ → ℕ → ℕ
others_of [] i = 1
others_of (d ∷ ds) zero = all_of ds
others_of (d ∷ ds) (suc i) = d * others_of ds i

apart : (ds : List ℕ) (i : ℕ) → all_of ds ≡ one_of ds i * others_of ds i
apart [] i = refl
apart (d ∷ ds) zero = refl
apart (d ∷ ds) (suc i) = ap (λ n. d * n) (apart ds i) ∙ exchange d (one_of ds i) (others_of ds i)
  where
    exchange : (a b c : ℕ) → a * (b * c) ≡ b * (a * c)
    exchange a b c = sym (mul_assoc a b c) ∙ (ap (λ n. n * c) (mul_comm a b) ∙ mul_assoc b a c)

ratio_of : (r : Fraction) (d k : ℕ) → IsFraction r → 0 < d → d ≡ r.denominator * k → IsRatio r (r.numerator *ℤ pos k) d
ratio_of r d k p q e =
    record { is_fraction = p; positive = q; equal = ap (λ n. r.numerator *ℤ pos n) e ∙ ring (r.numerator ∷ pos r.denominator ∷ pos k ∷ []) (v 0 ⊗ (v 1 ⊗ v 2)) ((v 0 ⊗ v 2) ⊗ v 1) tt }

module _ (exact : Leaf → ℤ → Fraction) (t : ℤ) (numbers : (l : Leaf) → IsLeaf l → IsFraction (exact l t)) (one other : Decimal) where
  abbrev denominators : List ℕ
  denominators = (exact (position 0 0) t).denominator ∷ (exact (position 0 1) t).denominator ∷ (exact (position 0 2) t).denominator ∷ (exact (position 1 0) t).denominator ∷ (exact (position 1 1) t).denominator ∷ (exact (position 1 2) t).denominator ∷ (exact (velocity 0 0) t).denominator ∷ (exact (velocity 0 1) t).denominator ∷ (exact (velocity 0 2) t).denominator ∷ (exact (velocity 1 0) t).denominator ∷ (exact (velocity 1 1) t).denominator ∷ (exact (velocity 1 2) t).denominator ∷ (decimal one.mant one.exp).denominator ∷ (decimal other.mant other.exp).denominator ∷ []

  number : (l : Leaf) → IsLeaf l → 0 < (exact l t).denominator
  number l h = numbers l h

  positive : 0 < all_of denominators
  positive =
      mul-pos (number (position 0 0) (omega arith, omega arith)) (mul-pos (number (position 0 1) (omega arith, omega arith)) (mul-pos (number (position 0 2) (omega arith, omega arith)) (mul-pos (number (position 1 0) (omega arith, omega arith)) (mul-pos (number (position 1 1) (omega arith, omega arith)) (mul-pos (number (position 1 2) (omega arith, omega arith)) (mul-pos (number (velocity 0 0) (omega arith, omega arith)) (mul-pos (number (velocity 0 1) (omega arith, omega arith)) (mul-pos (number (velocity 0 2) (omega arith, omega arith)) (mul-pos (number (velocity 1 0) (omega arith, omega arith)) (mul-pos (number (velocity 1 1) (omega arith, omega arith)) (mul-pos (number (velocity 1 2) (omega arith, omega arith)) (mul-pos (IsFraction-decimal one.mant one.exp) (mul-pos (IsFraction-decimal other.mant other.exp) (omega arith))))))))))))))

  abbrev place : (l : Leaf) → ℕ → ℤ
  place l i = (exact l t).numerator *ℤ pos (others_of denominators i)

  -- the places along three axes, whose denominators stand from the i-th on
  abbrev triple_of : (ℕ → Leaf) → ℕ → Triple
  triple_of along_axis i = record { x = place (along_axis 0) i; y = place (along_axis 1) (suc i); z = place (along_axis 2) (suc (suc i)) }

  abbrev sight : Scene
  sight = record {
    unit = all_of denominators;
    target = triple_of (position 0) 0;
    second = triple_of (position 1) 3;
    target_velocity = triple_of (velocity 0) 6;
    second_velocity = triple_of (velocity 1) 9;
  }

  leaf_ratio : (l : Leaf) (i : ℕ) → IsLeaf l → one_of denominators i ≡ (exact l t).denominator → IsRatio (exact l t) (place l i) (all_of denominators)
  leaf_ratio l i h e = ratio_of (exact l t) (all_of denominators) (others_of denominators i) (numbers l h) positive (apart denominators i ∙ ap (λ n. n * others_of denominators i) e)

  ratios : (along_axis : ℕ → Leaf) (i : ℕ) → ((axis : ℕ) → axis < 3 → IsLeaf (along_axis axis))
      → one_of denominators i ≡ (exact (along_axis 0) t).denominator
      → one_of denominators (suc i) ≡ (exact (along_axis 1) t).denominator
      → one_of denominators (suc (suc i)) ≡ (exact (along_axis 2) t).denominator
      → (axis : ℕ) → axis < 3 → IsRatio (exact (along_axis axis) t) (along (triple_of along_axis i) axis) (all_of denominators)
  ratios along_axis i leaf x y z zero h = leaf_ratio (along_axis 0) i (leaf 0 h) x
  ratios along_axis i leaf x y z (suc zero) h = leaf_ratio (along_axis 1) (suc i) (leaf 1 h) y
  ratios along_axis i leaf x y z (suc (suc zero)) h = leaf_ratio (along_axis 2) (suc (suc i)) (leaf 2 h) z
  ratios along_axis i leaf x y z (suc (suc (suc axis))) h = absurd (omega (arith, h))

  shown : Shows exact t sight
  shown (position zero axis) h = ratios (position 0) 0 (λ a within. (h.0, within)) refl refl refl axis h.1
  shown (position (suc zero) axis) h = ratios (position 1) 3 (λ a within. (h.0, within)) refl refl refl axis h.1
  shown (position (suc (suc target)) axis) h = let b : suc (suc target) < 2 = h.0 in absurd (omega arith)
  shown (velocity zero axis) h = ratios (velocity 0) 6 (λ a within. (h.0, within)) refl refl refl axis h.1
  shown (velocity (suc zero) axis) h = ratios (velocity 1) 9 (λ a within. (h.0, within)) refl refl refl axis h.1
  shown (velocity (suc (suc target)) axis) h = let b : suc (suc target) < 2 = h.0 in absurd (omega arith)

  pub has_scene : HasScene exact t one other
  has_scene = record { scene = sight; shows = shown; first_length = (decimal one.mant one.exp).numerator *ℤ pos (others_of denominators 12); second_length = (decimal other.mant other.exp).numerator *ℤ pos (others_of denominators 13); first = ratio_of (decimal one.mant one.exp) (all_of denominators) (others_of denominators 12) (IsFraction-decimal one.mant one.exp) positive (apart denominators 12); second = ratio_of (decimal other.mant other.exp) (all_of denominators) (others_of denominators 13) (IsFraction-decimal other.mant other.exp) positive (apart denominators 13) }

pub view_has_scene : (w : View) (a b t : ℤ) → Fits w a b → a ≤ℤ t → t ≤ℤ b → (one other : Decimal) → HasScene (exact_state w) t one other
view_has_scene w a b t fits low high one other =
    has_scene (exact_state w) t (λ l is. fractions_of_states w a b fits l is t low high) one other
