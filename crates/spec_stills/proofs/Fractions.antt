-- The order of fractions under sums, differences and small parts.
use Rattle.std.proofs.Common.{ℕ, ◌*◌, arith, [], ◌∷◌, ℤ, pos, ◌*ℤ◌, ◌≤ℤ◌}
use Rattle.spec_numbers.proofs.Ring.{v, ◌⊖◌, ◌⊗◌, minus, ring}
use Rattle.spec_numbers.proofs.Order.{lin, le-mul}
use Rattle.spec_intervals.specs.Fraction.{Fraction, fraction_sub}
use Rattle.spec_models.specs.Ends.{NoMore}
use Rattle.spec_stills.specs.Margins.{multiple, opposite}

-- a comparison over two more denominators
module _ (x y : ℤ) (p q r s : ℕ) (h : (x *ℤ pos p) ≤ℤ (y *ℤ pos q)) where
  wider : (x *ℤ pos p *ℤ pos (r * s)) ≤ℤ (y *ℤ pos q *ℤ pos (r * s))
  wider = le-mul (x *ℤ pos p) (y *ℤ pos q) (pos (r * s)) (omega (arith, lin)) h

pub sub_no_more : (a b c d : Fraction) → NoMore a b → NoMore d c → NoMore (fraction_sub a c) (fraction_sub b d)
sub_no_more a b c d p q =
    let e = wider a.numerator b.numerator b.denominator a.denominator c.denominator d.denominator p in
    let f = wider d.numerator c.numerator c.denominator d.denominator a.denominator b.denominator q in
    let g = ring (a.numerator ∷ c.numerator ∷ pos a.denominator ∷ pos b.denominator ∷ pos c.denominator ∷ pos
    d.denominator ∷ [])
    ((v 0 ⊗ v 4 ⊖ v 1 ⊗ v 2) ⊗ (v 3 ⊗ v 5)) (v 0 ⊗ v 3 ⊗ (v 4 ⊗ v 5) ⊖ v 1 ⊗ v 5 ⊗ (v 2 ⊗ v 3)) tt in
    let h = ring (b.numerator ∷ d.numerator ∷ pos a.denominator ∷ pos b.denominator ∷ pos c.denominator ∷ pos
    d.denominator ∷ [])
    ((v 0 ⊗ v 5 ⊖ v 1 ⊗ v 3) ⊗ (v 2 ⊗ v 4)) (v 0 ⊗ v 2 ⊗ (v 4 ⊗ v 5) ⊖ v 1 ⊗ v 4 ⊗ (v 2 ⊗ v 3)) tt in
    omega (arith, lin)

pub multiple_no_more : (n : ℕ) (a b : Fraction) → NoMore a b → NoMore (multiple n a) (multiple n b)
multiple_no_more n a b p =
    let e = le-mul (a.numerator *ℤ pos b.denominator) (b.numerator *ℤ pos a.denominator) (pos n) (omega (arith, lin)) p in
    let g = ring (a.numerator ∷ pos b.denominator ∷ pos n ∷ []) (v 0 ⊗ v 2 ⊗ v 1) (v 0 ⊗ v 1 ⊗ v 2) tt in
    let h = ring (b.numerator ∷ pos a.denominator ∷ pos n ∷ []) (v 0 ⊗ v 2 ⊗ v 1) (v 0 ⊗ v 1 ⊗ v 2) tt in
    omega (arith, lin)

pub opposite_no_more : (a b : Fraction) → NoMore a b → NoMore (opposite b) (opposite a)
opposite_no_more a b p =
    let g = ring (a.numerator ∷ pos b.denominator ∷ []) (minus (v 0) ⊗ v 1) (minus (v 0 ⊗ v 1)) tt in
    let h = ring (b.numerator ∷ pos a.denominator ∷ []) (minus (v 0) ⊗ v 1) (minus (v 0 ⊗ v 1)) tt in
    omega (arith, lin)
