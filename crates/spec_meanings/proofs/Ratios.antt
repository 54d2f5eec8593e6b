-- Sums, products and signed squares of fractions over given denominators.
use Rattle.std.proofs.Common.{◌≡◌, ℕ, ◌*◌, ◌<◌, sym, ap, ◌∙◌, [], ◌∷◌, ℤ, pos, ◌+ℤ◌, ◌-ℤ◌, ◌*ℤ◌}
use Rattle.std.proofs.Math.Nat.{mul-pos}
use Rattle.spec_numbers.proofs.Ring.{v, ◌⊕◌, ◌⊖◌, ◌⊗◌, ring}
use Rattle.spec_intervals.specs.Interval.{signed_sq}
use Rattle.spec_intervals.specs.Fraction.{Fraction, fraction_add, fraction_sub, fraction_mul, fraction_signed_square}
use Rattle.spec_intervals.proofs.Squares.{signed_sq-scaled}
use Rattle.spec_meanings.specs.Ratios.{IsRatio}

sum_equal : (a b m n : ℤ) (e f d : ℕ) → a *ℤ pos d ≡ m *ℤ pos e → b *ℤ pos d ≡ n *ℤ pos f → (a *ℤ pos f +ℤ b *ℤ pos e) *ℤ pos d ≡ (m +ℤ n) *ℤ pos (e * f)
sum_equal a b m n e f d p q =
    ring (a ∷ b ∷ pos e ∷ pos f ∷ pos d ∷ []) ((v 0 ⊗ v 3 ⊕ v 1 ⊗ v 2) ⊗ v 4) ((v 0 ⊗ v 4) ⊗ v 3 ⊕ (v 1 ⊗ v 4) ⊗ v 2) tt ∙ (ap (λ x. x *ℤ pos f +ℤ (b *ℤ pos d) *ℤ pos e) p ∙ (ap (λ x. (m *ℤ pos e) *ℤ pos f +ℤ x *ℤ pos e) q ∙ ring (m ∷ n ∷ pos e ∷ pos f ∷ []) ((v 0 ⊗ v 2) ⊗ v 3 ⊕ (v 1 ⊗ v 3) ⊗ v 2) ((v 0 ⊕ v 1) ⊗ (v 2 ⊗ v 3)) tt))

difference_equal : (a b m n : ℤ) (e f d : ℕ) → a *ℤ pos d ≡ m *ℤ pos e → b *ℤ pos d ≡ n *ℤ pos f → (a *ℤ pos f -ℤ b *ℤ pos e) *ℤ pos d ≡ (m -ℤ n) *ℤ pos (e * f)
difference_equal a b m n e f d p q =
    ring (a ∷ b ∷ pos e ∷ pos f ∷ pos d ∷ []) ((v 0 ⊗ v 3 ⊖ v 1 ⊗ v 2) ⊗ v 4) ((v 0 ⊗ v 4) ⊗ v 3 ⊖ (v 1 ⊗ v 4) ⊗ v 2) tt ∙ (ap (λ x. x *ℤ pos f -ℤ (b *ℤ pos d) *ℤ pos e) p ∙ (ap (λ x. (m *ℤ pos e) *ℤ pos f -ℤ x *ℤ pos e) q ∙ ring (m ∷ n ∷ pos e ∷ pos f ∷ []) ((v 0 ⊗ v 2) ⊗ v 3 ⊖ (v 1 ⊗ v 3) ⊗ v 2) ((v 0 ⊖ v 1) ⊗ (v 2 ⊗ v 3)) tt))

product_equal : (a b m n : ℤ) (e f d g : ℕ) → a *ℤ pos d ≡ m *ℤ pos e → b *ℤ pos g ≡ n *ℤ pos f → (a *ℤ b) *ℤ pos (d * g) ≡ (m *ℤ n) *ℤ pos (e * f)
product_equal a b m n e f d g p q =
    ring (a ∷ b ∷ pos d ∷ pos g ∷ []) ((v 0 ⊗ v 1) ⊗ (v 2 ⊗ v 3)) ((v 0 ⊗ v 2) ⊗ (v 1 ⊗ v 3)) tt ∙ (ap (λ x. x *ℤ (b *ℤ pos g)) p ∙ (ap (λ x. (m *ℤ pos e) *ℤ x) q ∙ ring (m ∷ n ∷ pos e ∷ pos f ∷ []) ((v 0 ⊗ v 2) ⊗ (v 1 ⊗ v 3)) ((v 0 ⊗ v 1) ⊗ (v 2 ⊗ v 3)) tt))

square_equal : (a m : ℤ) (e d : ℕ) → a *ℤ pos d ≡ m *ℤ pos e → signed_sq a *ℤ pos (d * d) ≡ signed_sq m *ℤ pos (e * e)
square_equal a m e d p = sym (signed_sq-scaled a d) ∙ (ap signed_sq p ∙ signed_sq-scaled m e)

module _ {r s : Fraction} {m n : ℤ} {d : ℕ} (p : IsRatio r m d) (q : IsRatio s n d) where
  pub sum_ratio : IsRatio (fraction_add r s) (m +ℤ n) d
  sum_ratio = record { is_fraction = mul-pos p.is_fraction q.is_fraction; positive = p.positive; equal = sum_equal r.numerator s.numerator m n r.denominator s.denominator d p.equal q.equal }

  pub difference_ratio : IsRatio (fraction_sub r s) (m -ℤ n) d
  difference_ratio = record { is_fraction = mul-pos p.is_fraction q.is_fraction; positive = p.positive; equal = difference_equal r.numerator s.numerator m n r.denominator s.denominator d p.equal q.equal }

pub product_ratio : {r s : Fraction} {m n : ℤ} {d e : ℕ} → IsRatio r m d → IsRatio s n e → IsRatio (fraction_mul r s) (m *ℤ n) (d * e)
product_ratio {r} {s} {m} {n} {d} {e} p q =
    record { is_fraction = mul-pos p.is_fraction q.is_fraction; positive = mul-pos p.positive q.positive; equal = product_equal r.numerator s.numerator m n r.denominator s.denominator d e p.equal q.equal }

pub square_ratio : {r : Fraction} {m : ℤ} {d : ℕ} → IsRatio r m d → IsRatio (fraction_signed_square r) (signed_sq m) (d * d)
square_ratio {r} {m} {d} p =
    record { is_fraction = mul-pos p.is_fraction p.is_fraction; positive = mul-pos p.positive p.positive; equal = square_equal r.numerator m r.denominator d p.equal }

-- n k / (k d)
pub scaled_ratio : {r : Fraction} {n : ℤ} {d : ℕ} → (k : ℕ) → 0 < k → IsRatio r n d → IsRatio r (n *ℤ pos k) (k * d)
scaled_ratio {r} {n} {d} k h p =
    record { is_fraction = p.is_fraction; positive = mul-pos h p.positive; equal = ring (r.numerator ∷ pos k ∷ pos d ∷ []) (v 0 ⊗ (v 1 ⊗ v 2)) ((v 0 ⊗ v 2) ⊗ v 1) tt ∙ (ap (λ x. x *ℤ pos k) p.equal ∙ ring (n ∷ pos r.denominator ∷ pos k ∷ []) ((v 0 ⊗ v 1) ⊗ v 2) ((v 0 ⊗ v 2) ⊗ v 1) tt) }
