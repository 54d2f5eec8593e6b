-- Cleared sums of sums and of multiples.
use Rattle.std.proofs.Common.{◌≡◌, ℕ, suc, refl, ap, ◌∙◌, List, [], ◌∷◌, length, ℤ, pos, ◌+ℤ◌, ◌*ℤ◌, sym}
use Rattle.std.proofs.Math.IntN.{*ℤ-zero}
use Rattle.spec_text.specs.declared.decimals.Decimal.{Decimal}
use Rattle.spec_numbers.specs.Numbers.{power}
use Rattle.spec_numbers.proofs.Ring.{v, k as lit, ◌⊕◌, ◌⊗◌, ring}
use Rattle.spec_ephemeris.specs.Series.{scaled, cleared_sum}

changed_term : (c p0 d w x y : ℤ) → c *ℤ ((p0 +ℤ pos 2 *ℤ d) *ℤ w) +ℤ (x +ℤ pos 2 *ℤ y) ≡ (c *ℤ (p0 *ℤ w) +ℤ x) +ℤ pos 2 *ℤ (c *ℤ (d *ℤ w) +ℤ y)
changed_term c p0 d w x y = ring (c ∷ p0 ∷ d ∷ w ∷ x ∷ y ∷ []) (v 0 ⊗ ((v 1 ⊕ lit (pos 2) ⊗ v 2) ⊗ v 3) ⊕ (v 4 ⊕ lit (pos 2) ⊗ v 5)) ((v 0 ⊗ (v 1 ⊗ v 3) ⊕ v 4) ⊕ lit (pos 2) ⊗ (v 0 ⊗ (v 2 ⊗ v 3) ⊕ v 5)) tt

-- where each of the terms changes by twice d, the sum does
pub cleared_sum-change : (p q d : ℕ → ℤ) (l : ℤ) → ((k : ℕ) → q k ≡ p k +ℤ pos 2 *ℤ d k) → (k : ℕ) (cs : List Decimal) → cleared_sum q l k cs ≡ cleared_sum p l k cs +ℤ pos 2 *ℤ cleared_sum d l k cs
cleared_sum-change p q d l e k [] = refl
cleared_sum-change p q d l e k (c ∷ cs) =
    ap (λ (z : ℤ). scaled c *ℤ (z *ℤ power l (length cs)) +ℤ cleared_sum q l (suc k) cs) (e k)
    ∙ (ap (λ (z : ℤ). scaled c *ℤ ((p k +ℤ pos 2 *ℤ d k) *ℤ power l (length cs)) +ℤ z) (cleared_sum-change p q d l e (suc k) cs)
    ∙ changed_term (scaled c) (p k) (d k) (power l (length cs)) (cleared_sum p l (suc k) cs) (cleared_sum d l (suc k) cs))

times_term : (m c d w y : ℤ) → c *ℤ ((m *ℤ d) *ℤ w) +ℤ m *ℤ y ≡ m *ℤ (c *ℤ (d *ℤ w) +ℤ y)
times_term m c d w y = ring (m ∷ c ∷ d ∷ w ∷ y ∷ []) (v 1 ⊗ ((v 0 ⊗ v 2) ⊗ v 3) ⊕ v 0 ⊗ v 4) (v 0 ⊗ (v 1 ⊗ (v 2 ⊗ v 3) ⊕ v 4)) tt

pub cleared_sum-times : (d : ℕ → ℤ) (m l : ℤ) (k : ℕ) (cs : List Decimal) → cleared_sum (λ j. m *ℤ d j) l k cs ≡ m *ℤ cleared_sum d l k cs
cleared_sum-times d m l k [] = sym (*ℤ-zero m)
cleared_sum-times d m l k (c ∷ cs) =
    ap (λ (z : ℤ). scaled c *ℤ ((m *ℤ d k) *ℤ power l (length cs)) +ℤ z) (cleared_sum-times d m l (suc k) cs)
    ∙ times_term m (scaled c) (d k) (power l (length cs)) (cleared_sum d l (suc k) cs)
