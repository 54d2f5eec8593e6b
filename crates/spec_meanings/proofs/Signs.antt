-- The sign of a fraction is that of its numerator over any denominator.
use Rattle.std.proofs.Common.{◌≡◌, ℕ, ◌<◌, arith, sym, [], ◌∷◌, ℤ, pos, ◌*ℤ◌, ◌≤ℤ◌, ◌<ℤ◌}
use Rattle.std.specs.Prelude.{◌↔◌}
use Rattle.std.proofs.lemmas.Int.{by_lt_z}
use Rattle.spec_numbers.proofs.Ring.{v, k as lit, ◌⊗◌, ring}
use Rattle.spec_numbers.proofs.Order.{lin, le-mul, le-mul_cancel}
use Rattle.spec_intervals.specs.Fraction.{Fraction}
use Rattle.spec_meanings.specs.Ratios.{IsRatio}

-- a d = n e, with d and e above 0
not_negative_by : (a n : ℤ) (d e : ℕ) → 0 < e → a *ℤ pos d ≡ n *ℤ pos e → pos 0 ≤ℤ a → pos 0 ≤ℤ n
not_negative_by a n d e h p q =
    let r : (pos 0 *ℤ pos d) ≤ℤ (a *ℤ pos d) = le-mul (pos 0) a (pos d) (omega (arith, lin)) q in
    let z : pos 0 *ℤ pos d ≡ pos 0 = ring (pos d ∷ []) (lit (pos 0) ⊗ v 0) (lit (pos 0)) tt in
    let y : pos 0 *ℤ pos e ≡ pos 0 = ring (pos e ∷ []) (lit (pos 0) ⊗ v 0) (lit (pos 0)) tt in
    le-mul_cancel (pos 0) n e h (omega (arith, lin))

not_positive_by : (a n : ℤ) (d e : ℕ) → 0 < e → a *ℤ pos d ≡ n *ℤ pos e → a ≤ℤ pos 0 → n ≤ℤ pos 0
not_positive_by a n d e h p q =
    let r : (a *ℤ pos d) ≤ℤ (pos 0 *ℤ pos d) = le-mul a (pos 0) (pos d) (omega (arith, lin)) q in
    let z : pos 0 *ℤ pos d ≡ pos 0 = ring (pos d ∷ []) (lit (pos 0) ⊗ v 0) (lit (pos 0)) tt in
    let y : pos 0 *ℤ pos e ≡ pos 0 = ring (pos e ∷ []) (lit (pos 0) ⊗ v 0) (lit (pos 0)) tt in
    le-mul_cancel n (pos 0) e h (omega (arith, lin))

module _ {r : Fraction} {n : ℤ} {d : ℕ} (p : IsRatio r n d) where
  pub not_negative : (pos 0 ≤ℤ r.numerator) ↔ (pos 0 ≤ℤ n)
  not_negative = (not_negative_by r.numerator n d r.denominator p.is_fraction p.equal, not_negative_by n r.numerator r.denominator d p.positive (sym p.equal))

  pub not_positive : (r.numerator ≤ℤ pos 0) ↔ (n ≤ℤ pos 0)
  not_positive = (not_positive_by r.numerator n d r.denominator p.is_fraction p.equal, not_positive_by n r.numerator r.denominator d p.positive (sym p.equal))

  pub negative : (r.numerator <ℤ pos 0) ↔ (n <ℤ pos 0)
  negative = (λ h. by_lt_z n (pos 0) (λ q. q) (λ q. let g : pos 0 ≤ℤ r.numerator = not_negative.1 q in absurd (omega (arith, lin))), λ h. by_lt_z r.numerator (pos 0) (λ q. q) (λ q. let g : pos 0 ≤ℤ n = not_negative.0 q in absurd (omega (arith, lin))))

  pub nought : (r.numerator ≡ pos 0) ↔ (n ≡ pos 0)
  nought = (λ h. let f : pos 0 ≤ℤ n = not_negative.0 (omega (arith, lin)) in let g : n ≤ℤ pos 0 = not_positive.0 (omega (arith, lin)) in omega (arith, lin), λ h. let f : pos 0 ≤ℤ r.numerator = not_negative.1 (omega (arith, lin)) in let g : r.numerator ≤ℤ pos 0 = not_positive.1 (omega (arith, lin)) in omega (arith, lin))
