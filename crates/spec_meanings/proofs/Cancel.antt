-- Factors above 0 that are cancelled, and squares.
use Rattle.std.proofs.Common.{◌≡◌, zero, suc, arith, refl, [], ◌∷◌, ℤ, pos, negsuc, ◌*ℤ◌, neg_ℤ, ◌≤ℤ◌, ◌<ℤ◌}
use Rattle.std.proofs.lemmas.Int.{ints, by_lt_z}
use Rattle.spec_numbers.proofs.Ring.{v, k as lit, ◌⊗◌, minus, ring}
use Rattle.spec_numbers.proofs.Order.{lin, le-mul, le-mul_cancel}
use Rattle.spec_numbers.proofs.Whole.{nonneg-mul}
use Rattle.spec_chebyshev.proofs.Polynomials.{le_from_squares}

pub positive-mul : (a b : ℤ) → pos 0 <ℤ a → pos 0 <ℤ b → pos 0 <ℤ (a *ℤ b)
positive-mul (pos zero) b p q = absurd (omega (arith, lin))
positive-mul (pos (suc m)) (pos zero) p q = absurd (omega (arith, lin))
positive-mul (pos (suc m)) (pos (suc n)) p q = omega (arith, ints)
positive-mul (pos (suc m)) (negsuc n) p q = absurd (omega (arith, lin))
positive-mul (negsuc m) b p q = absurd (omega (arith, lin))

pub cancel_le : (a b l : ℤ) → pos 0 <ℤ l → (a *ℤ l) ≤ℤ (b *ℤ l) → a ≤ℤ b
cancel_le a b (pos n) p q = le-mul_cancel a b n (omega (arith, lin)) q
cancel_le a b (negsuc n) p q = absurd (omega (arith, lin))

pub cancel_low : (z l : ℤ) → pos 0 <ℤ l → pos 0 ≤ℤ (z *ℤ l) → pos 0 ≤ℤ z
cancel_low z l p q = let n : pos 0 *ℤ l ≡ pos 0 = ring (l ∷ []) (lit (pos 0) ⊗ v 0) (lit (pos 0)) tt in cancel_le (pos 0) z l p (omega (arith, lin))

pub cancel_high : (z l : ℤ) → pos 0 <ℤ l → (z *ℤ l) ≤ℤ pos 0 → z ≤ℤ pos 0
cancel_high z l p q = let n : pos 0 *ℤ l ≡ pos 0 = ring (l ∷ []) (lit (pos 0) ⊗ v 0) (lit (pos 0)) tt in cancel_le z (pos 0) l p (omega (arith, lin))

pub cancel_zero : (z l : ℤ) → pos 0 <ℤ l → z *ℤ l ≡ pos 0 → z ≡ pos 0
cancel_zero z l p q =
    let a : pos 0 ≤ℤ z = cancel_low z l p (omega (arith, lin)) in
    let b : z ≤ℤ pos 0 = cancel_high z l p (omega (arith, lin)) in
    omega (arith, lin)

pub cancel_below : (z l : ℤ) → pos 0 <ℤ l → (z *ℤ l) <ℤ pos 0 → z <ℤ pos 0
cancel_below z l p q = by_lt_z z (pos 0) (λ h. h) (λ h. let g : pos 0 ≤ℤ (z *ℤ l) = nonneg-mul z l h (omega (arith, lin)) in absurd (omega (arith, lin)))

-- the other factor of a product above 0
pub factor_above : (z l : ℤ) → pos 0 ≤ℤ l → pos 0 <ℤ (z *ℤ l) → pos 0 <ℤ z
factor_above z l p q =
    by_lt_z (pos 0) z (λ h. h) (λ h. let g : (z *ℤ l) ≤ℤ (pos 0 *ℤ l) = le-mul z (pos 0) l p h in let n : pos 0 *ℤ l ≡ pos 0 = ring (l ∷ []) (lit (pos 0) ⊗ v 0) (lit (pos 0)) tt in absurd (omega (arith, lin)))

pub square_none : (x : ℤ) → (x *ℤ x) ≤ℤ pos 0 → x ≡ pos 0
square_none (pos zero) h = refl
square_none (pos (suc n)) h = let g : pos 0 <ℤ (pos (suc n) *ℤ pos (suc n)) = positive-mul (pos (suc n)) (pos (suc n)) (omega (arith, lin)) (omega (arith, lin)) in absurd (omega (arith, lin))
square_none (negsuc n) h =
    let g : pos 0 <ℤ (pos (suc n) *ℤ pos (suc n)) = positive-mul (pos (suc n)) (pos (suc n)) (omega (arith, lin)) (omega (arith, lin)) in
    let e : neg_ℤ (pos (suc n)) *ℤ neg_ℤ (pos (suc n)) ≡ pos (suc n) *ℤ pos (suc n) = ring (pos (suc n) ∷ []) (minus (v 0) ⊗ minus (v 0)) (v 0 ⊗ v 0) tt in
    absurd (omega (arith, lin))

-- z z <= k k gives -k <= z
pub low_from_squares : (z k : ℤ) → pos 0 ≤ℤ k → (z *ℤ z) ≤ℤ (k *ℤ k) → neg_ℤ k ≤ℤ z
low_from_squares z k h q =
    let e : neg_ℤ z *ℤ neg_ℤ z ≡ z *ℤ z = ring (z ∷ []) (minus (v 0) ⊗ minus (v 0)) (v 0 ⊗ v 0) tt in
    let g : neg_ℤ z ≤ℤ k = le_from_squares (neg_ℤ z) k h (omega (arith, lin)) in
    omega (arith, lin)

-- products of numbers that are at least 0 keep their order
pub le-products : (a b c d : ℤ) → pos 0 ≤ℤ b → pos 0 ≤ℤ c → a ≤ℤ b → c ≤ℤ d → (a *ℤ c) ≤ℤ (b *ℤ d)
le-products a b c d hb hc p q =
    let g : (a *ℤ c) ≤ℤ (b *ℤ c) = le-mul a b c hc p in
    let h : (c *ℤ b) ≤ℤ (d *ℤ b) = le-mul c d b hb q in
    let e : c *ℤ b ≡ b *ℤ c = ring (c ∷ b ∷ []) (v 0 ⊗ v 1) (v 1 ⊗ v 0) tt in
    let f : d *ℤ b ≡ b *ℤ d = ring (d ∷ b ∷ []) (v 0 ⊗ v 1) (v 1 ⊗ v 0) tt in
    omega (arith, lin)
