-- The order of fractions, with nothing divided.
use Rattle.std.proofs.Common.{◌≡◌, arith, [], ◌∷◌, pos, ◌*ℤ◌, ◌≤ℤ◌}
use Rattle.spec_numbers.proofs.Ring.{v, ◌⊗◌, ring}
use Rattle.spec_numbers.proofs.Order.{lin, le-mul, natural}
use Rattle.spec_numbers.proofs.Whole.{mul_comm, nonneg-mul}
use Rattle.spec_intervals.specs.Fraction.{Fraction, IsFraction, fraction_mul}
use Rattle.spec_models.specs.Ends.{NoMore}
use Rattle.spec_models.proofs.Ordered.{no_more_trans}

-- two fractions are one number
abbrev pub IsSame : Fraction → Fraction → Type 0
IsSame a b = a.numerator *ℤ pos b.denominator ≡ b.numerator *ℤ pos a.denominator

pub same_below : (a b : Fraction) → IsSame a b → NoMore a b
same_below a b e = omega (arith, lin, e)

-- no more than what is the same number
pub same_through : (a b c : Fraction) → IsFraction b → NoMore a b → IsSame b c → NoMore a c
same_through a b c number h e = no_more_trans a b c number h (same_below b c e)

-- products of what is not negative
pub products_in_order : (a b c d : Fraction) → pos 0 ≤ℤ b.numerator → pos 0 ≤ℤ c.numerator → NoMore a b → NoMore c d
    → NoMore (fraction_mul a c) (fraction_mul b d)
products_in_order a b c d b0 c0 h g =
    let first : (a.numerator *ℤ pos b.denominator *ℤ (c.numerator *ℤ pos d.denominator)) ≤ℤ (b.numerator *ℤ pos a.denominator *ℤ (c.numerator *ℤ pos d.denominator)) =
    le-mul _ _ (c.numerator *ℤ pos d.denominator) (nonneg-mul c.numerator (pos d.denominator) c0 (natural d.denominator)) h in
    let second : (c.numerator *ℤ pos d.denominator *ℤ (b.numerator *ℤ pos a.denominator)) ≤ℤ (d.numerator *ℤ pos c.denominator *ℤ (b.numerator *ℤ pos a.denominator)) =
    le-mul _ _ (b.numerator *ℤ pos a.denominator) (nonneg-mul b.numerator (pos a.denominator) b0 (natural a.denominator)) g in
    let e = ring (a.numerator ∷ c.numerator ∷ pos b.denominator ∷ pos d.denominator ∷ []) (v 0 ⊗ v 1 ⊗ (v 2 ⊗ v 3)) (v 0 ⊗ v 2 ⊗ (v 1 ⊗ v 3)) tt in
    let f = ring (b.numerator ∷ d.numerator ∷ pos a.denominator ∷ pos c.denominator ∷ []) (v 0 ⊗ v 1 ⊗ (v 2 ⊗ v 3)) (v 1 ⊗ v 3 ⊗ (v 0 ⊗ v 2)) tt in
    let x = mul_comm (b.numerator *ℤ pos a.denominator) (c.numerator *ℤ pos d.denominator) in
    omega (arith, lin)
