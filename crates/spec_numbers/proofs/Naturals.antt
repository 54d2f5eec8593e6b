-- Products and powers of natural numbers.
use Rattle.std.proofs.Common.{◌≡◌, ℕ, zero, suc, ◌+◌, ◌*◌, ◌^◌, ◌<◌, ◌≤◌, arith, sym, ap, ◌∙◌, [], ◌∷◌, ℤ, pos, ◌*ℤ◌}
use Rattle.std.proofs.lemmas.Nat.{mul-le}
use Rattle.std.proofs.Math.Nat.{one-le-pow, pow-zero, pow-suc, mul_comm}
use Rattle.spec_numbers.specs.Numbers.{power}
use Rattle.spec_numbers.proofs.Ring.{v, k as lit, ◌⊗◌, ring}

pub positive_product : (m n : ℕ) → 0 < m → 0 < n → 0 < m * n
positive_product m n p q = grind arith

pub positive_multiple : (m l n : ℕ) → 0 < m → 1 ≤ l → 0 < m * l ^ n
positive_multiple m l n p q = positive_product m (l ^ n) p (one-le-pow n l q)

pub exchanged_factors : (m n k : ℕ) → m * (n * k) ≡ m * k * n
exchanged_factors m n k = omega arith

-- row m of n rows of k numbers ends within them
pub row_fits : (m n k : ℕ) → m < n → m * k + k ≤ n * k
row_fits m n k below = let step : (m + 1) * k ≤ n * k = mul-le (m + 1) k n k (omega (arith, below)) (omega arith) in omega (arith, step)

pub power-pos : (a k : ℕ) → power (pos a) k ≡ pos (a ^ k)
power-pos a zero = ap pos (sym (pow-zero a))
power-pos a (suc k) = ap (λ z. pos a *ℤ z) (power-pos a k) ∙ ap pos (mul_comm a (a ^ k) ∙ sym (pow-suc a k))

pub power-add : (q : ℤ) (n d : ℕ) → power q (n + d) ≡ power q n *ℤ power q d
power-add q zero d = let z : 0 + d ≡ d = omega arith in ap (power q) z ∙ ring (power q d ∷ []) (v 0) (lit (pos 1) ⊗ v 0) tt
power-add q (suc n) d =
    let s : suc n + d ≡ suc (n + d) = omega arith in
    ap (power q) s ∙ (ap (λ y. q *ℤ y) (power-add q n d) ∙ ring (q ∷ power q n ∷ power q d ∷ []) (v 0 ⊗ (v 1 ⊗ v 2)) ((v 0 ⊗ v 1) ⊗ v 2) tt)
