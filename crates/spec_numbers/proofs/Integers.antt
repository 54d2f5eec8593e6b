-- Laws of sums, products and powers of ten of the integers.
use Rattle.std.proofs.Common.{◌≡◌, ℕ, ◌+◌, ◌*◌, ◌^◌, arith, sym, ap, ◌∙◌, [], ◌∷◌, ℤ, pos, ◌+ℤ◌, ◌*ℤ◌, ◌≤ℤ◌}
use Rattle.std.proofs.lemmas.Int.{ints}
use Rattle.std.proofs.lemmas.Nat.{pow-add}
use Rattle.spec_numbers.proofs.Ring.{v, k as lit, ◌⊕◌, ◌⊗◌, ring}
pub use Rattle.spec_numbers.proofs.Whole.{mul_comm, mul_assoc, mul-add, add-mul, exchanged, one-mul}
pub use Rattle.spec_numbers.proofs.Order.{lt-mul_cancel}

pub times_one : (z : ℤ) → z *ℤ pos 1 ≡ z
times_one z = ring (z ∷ []) (v 0 ⊗ lit (pos 1)) (v 0) tt

pub doubled : (z : ℤ) → pos 2 *ℤ z ≡ z +ℤ z
doubled z = ring (z ∷ []) (lit (pos 2) ⊗ v 0) (v 0 ⊕ v 0) tt

pub doubles_ordered : (a b : ℤ) → a ≤ℤ b → (pos 2 *ℤ a) ≤ℤ (pos 2 *ℤ b)
doubles_ordered a b h = omega (arith, ints, h)

-- ---- factors in another order
pub exchanged_scales : (z : ℤ) (m n : ℕ) → z *ℤ pos m *ℤ pos n ≡ z *ℤ pos n *ℤ pos m
exchanged_scales z m n = ring (z ∷ pos m ∷ pos n ∷ []) (v 0 ⊗ v 1 ⊗ v 2) (v 0 ⊗ v 2 ⊗ v 1) tt

pub exchanged_inner : (z : ℤ) (u m n : ℕ) → z *ℤ pos (u * m) *ℤ pos n ≡ z *ℤ pos (u * n) *ℤ pos m
exchanged_inner z u m n = ring (z ∷ pos u ∷ pos m ∷ pos n ∷ []) (v 0 ⊗ (v 1 ⊗ v 2) ⊗ v 3) (v 0 ⊗ (v 1 ⊗ v 3) ⊗ v 2) tt

-- ---- powers of ten, also beside another scale
pub joined_powers : (z : ℤ) (r k t : ℕ) → r + k ≡ t → z *ℤ (pos (10 ^ r) *ℤ pos (10 ^ k)) ≡ z *ℤ pos (10 ^ t)
joined_powers z r k t e = ap (λ n. z *ℤ pos n) (sym (pow-add 10 r k) ∙ ap (λ i. 10 ^ i) e)

pub joined_beside : (z : ℤ) (r k t scale : ℕ) → r + k ≡ t → (z *ℤ pos (10 ^ r * scale)) *ℤ pos (10 ^ k) ≡ (z *ℤ pos (10 ^ t)) *ℤ pos scale
joined_beside z r k t scale e =
    ring (z ∷ pos (10 ^ r) ∷ pos (10 ^ k) ∷ pos scale ∷ []) ((v 0 ⊗ (v 1 ⊗ v 3)) ⊗ v 2) ((v 0 ⊗ (v 1 ⊗ v 2)) ⊗ v 3) tt ∙ ap (λ x. x *ℤ pos scale) (joined_powers z r k t e)
