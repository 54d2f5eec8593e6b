-- Where all numbers near a model have one sign, signed squares are products.
use Rattle.std.proofs.Common.{◌≡◌, ℕ, ◌+◌, ◌*◌, ◌^◌, ◌<◌, length, ap, subst, ◌∙◌, arith, [], ◌∷◌, List, ℤ, pos, ◌+ℤ◌, ◌-ℤ◌, ◌*ℤ◌, neg_ℤ, ◌≤ℤ◌, unsigned_abs}
use Rattle.std.proofs.lemmas.Int.{ints}
use Rattle.std.proofs.lemmas.Nat.{pow_pos}
use Rattle.spec_numbers.proofs.Naturals.{positive_product}
use borrow.Author.Differences.{up, down}
use Rattle.spec_numbers.specs.Numbers.{power}
use Rattle.spec_numbers.proofs.Ring.{v, k as lit, ◌⊕◌, ◌⊖◌, ◌⊗◌, minus, ring}
use Rattle.spec_numbers.proofs.Order.{lin, le-mul_cancel, natural}
use Rattle.spec_numbers.proofs.Whole.{nonneg-mul}
use Rattle.spec_intervals.specs.Fraction.{Fraction, fraction, fraction_mul}
use Rattle.spec_intervals.specs.Interval.{signed_sq}
use Rattle.spec_chebyshev.specs.Differences.{IsArgument}
use Rattle.spec_models.specs.Models.{Model, model, IsNear, at, degree, sizes}
use Rattle.spec_models.proofs.Bounds.{Within-at}
use Rattle.spec_covers.specs.Combining.{MultipliesTo, SquaresTo, OpposesTo, IsNotNegative, IsNotPositive}
use Rattle.spec_covers.proofs.Near.{whole_positive}

square_up : (z : ℤ) → pos 0 ≤ℤ z → z *ℤ z ≡ signed_sq z
square_up z h = let e : z ≡ pos (unsigned_abs z) = omega (arith, ints, h) in ap (λ w. z *ℤ w) e

square_down : (z : ℤ) → z ≤ℤ pos 0 → neg_ℤ (z *ℤ z) ≡ signed_sq z
square_down z h =
    let e : neg_ℤ z ≡ pos (unsigned_abs z) = omega (arith, ints, h) in
    ring (z ∷ []) (minus (v 0 ⊗ v 0)) (v 0 ⊗ minus (v 0)) tt ∙ ap (λ w. z *ℤ w) e

pub SquaresTo-up : (m k : Model) → IsNotNegative m → MultipliesTo m m k → SquaresTo m k
SquaresTo-up m k not_negative multiplies p q r is near =
    subst (λ z. IsNear k p q (fraction z (r.denominator * r.denominator))) (square_up r.numerator (not_negative p q r is near)) (multiplies p q r r is near near)

pub SquaresTo-down : (m w k : Model) → IsNotPositive m → MultipliesTo m m w → OpposesTo w k → SquaresTo m k
SquaresTo-down m w k not_positive multiplies opposes p q r is near =
    subst (λ z. IsNear k p q (fraction z (r.denominator * r.denominator))) (square_down r.numerator (not_positive p q r is near))
    (opposes p q (fraction_mul r r) is (multiplies p q r r is near near))

-- ---- the first coefficient is at least as great as the others together, and the error
module _ (x : ℤ) (xs : List ℤ) (e : ℕ) (s : ℤ) where
  abbrev whole_model : Model
  whole_model = model (x ∷ xs) e s

  module _ (p q : ℤ) (r : Fraction) (is : IsArgument p q) (near : IsNear whole_model p q r) where
    abbrev unit : ℤ
    unit = power q (degree whole_model)

    unit_nonneg : pos 0 ≤ℤ unit
    unit_nonneg = let same = (whole_positive whole_model p q is).0 in omega (arith, ints, same)

    abbrev polynomial : ℤ
    polynomial = at p q (degree whole_model) (x ∷ xs)

    unit_positive : 0 < unsigned_abs unit * 2 ^ down s
    unit_positive = positive_product (unsigned_abs unit) (2 ^ down s) (whole_positive whole_model p q is).1 (pow_pos (down s))

    -- p times the others is at most their sizes together
    others : ((x *ℤ unit -ℤ pos (sizes xs) *ℤ unit) ≤ℤ polynomial) × (polynomial ≤ℤ (x *ℤ unit +ℤ pos (sizes xs) *ℤ unit))
    others =
        let bound = Within-at p q (degree whole_model) (pos 0 ∷ xs) is in
        let low = bound.low in
        let high = bound.high in
        let n : 0 + sizes xs ≡ sizes xs = omega arith in
        let a : pos (0 + sizes xs) *ℤ unit ≡ pos (sizes xs) *ℤ unit = ap (λ k. pos k *ℤ unit) n in
        let b = ring (unit ∷ (p *ℤ at p q (length xs) xs) ∷ []) (lit (pos 0) ⊗ v 0 ⊕ v 1) (v 1) tt in
        (omega (arith, lin), omega (arith, lin))

    -- what is at least 0 over a positive number, and so at most 0
    up_from : (a n : ℤ) (u d l : ℕ) → 0 < l → pos 0 ≤ℤ a → (a *ℤ pos u *ℤ pos d) ≤ℤ (n *ℤ pos l) → pos 0 ≤ℤ n
    up_from a n u d l positive h g =
        let e = nonneg-mul (a *ℤ pos u) (pos d) (nonneg-mul a (pos u) h (natural u)) (natural d) in
        let f = ring (pos l ∷ []) (lit (pos 0) ⊗ v 0) (lit (pos 0)) tt in
        le-mul_cancel (pos 0) n l positive (omega (arith, lin))

    down_from : (a n : ℤ) (u d l : ℕ) → 0 < l → a ≤ℤ pos 0 → (n *ℤ pos l) ≤ℤ (a *ℤ pos u *ℤ pos d) → n ≤ℤ pos 0
    down_from a n u d l positive h g =
        let e = nonneg-mul (neg_ℤ a *ℤ pos u) (pos d) (nonneg-mul (neg_ℤ a) (pos u) (omega (arith, lin)) (natural u)) (natural d) in
        let i = ring (a ∷ pos u ∷ pos d ∷ []) (minus (v 0) ⊗ v 1 ⊗ v 2) (minus (v 0 ⊗ v 1 ⊗ v 2)) tt in
        let f = ring (pos l ∷ []) (lit (pos 0) ⊗ v 0) (lit (pos 0)) tt in
        le-mul_cancel n (pos 0) l positive (omega (arith, lin))

    not_negative : pos (sizes xs + e) ≤ℤ x → pos 0 ≤ℤ r.numerator
    not_negative h =
        let l = others.0 in
        let g = nonneg-mul (x -ℤ pos (sizes xs) -ℤ pos e) unit (omega (arith, ints)) unit_nonneg in
        let i = ring (x ∷ pos (sizes xs) ∷ pos e ∷ unit ∷ []) ((v 0 ⊖ v 1 ⊖ v 2) ⊗ v 3) (v 0 ⊗ v 3 ⊖ v 1 ⊗ v 3 ⊖ v 2 ⊗ v 3) tt in
        let j = ring (pos e ∷ unit ∷ []) (minus (v 0) ⊗ v 1) (minus (v 0 ⊗ v 1)) tt in
        up_from (polynomial +ℤ neg_ℤ (pos e) *ℤ unit) r.numerator (2 ^ up s) r.denominator (unsigned_abs unit * 2 ^ down s) unit_positive (omega (arith, lin)) near.low

    not_positive : pos (sizes xs + e) ≤ℤ neg_ℤ x → r.numerator ≤ℤ pos 0
    not_positive h =
        let l = others.1 in
        let g = nonneg-mul (neg_ℤ x -ℤ pos (sizes xs) -ℤ pos e) unit (omega (arith, ints)) unit_nonneg in
        let i = ring (x ∷ pos (sizes xs) ∷ pos e ∷ unit ∷ []) ((minus (v 0) ⊖ v 1 ⊖ v 2) ⊗ v 3) (minus (v 0 ⊗ v 3) ⊖ v 1 ⊗ v 3 ⊖ v 2 ⊗ v 3) tt in
        down_from (polynomial +ℤ pos e *ℤ unit) r.numerator (2 ^ up s) r.denominator (unsigned_abs unit * 2 ^ down s) unit_positive (omega (arith, lin)) near.high

  pub IsNotNegative-first : pos (sizes xs + e) ≤ℤ x → IsNotNegative whole_model
  IsNotNegative-first h p q r is near = not_negative p q r is near h

  pub IsNotPositive-first : pos (sizes xs + e) ≤ℤ neg_ℤ x → IsNotPositive whole_model
  IsNotPositive-first h p q r is near = not_positive p q r is near h
