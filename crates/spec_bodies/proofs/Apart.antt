-- (E + m) - E is m, and E - (E + m) is 0 - m, as fractions multiplied across.
use Rattle.std.proofs.Common.{[], ◌∷◌, pos}
use Rattle.spec_numbers.proofs.Ring.{v, k as lit, ◌⊕◌, ◌⊖◌, ◌⊗◌, ring}
use Rattle.spec_intervals.specs.Fraction.{Fraction, fraction, fraction_add, fraction_sub}
use Rattle.spec_bodies.specs.Meanings.{AreEqual}

pub sum_less : (e m : Fraction) → AreEqual m (fraction_sub (fraction_add e m) e)
sum_less e m =
    ring (e.numerator ∷ pos e.denominator ∷ m.numerator ∷ pos m.denominator ∷ [])
    (v 2 ⊗ ((v 1 ⊗ v 3) ⊗ v 1))
    (((v 0 ⊗ v 3 ⊕ v 2 ⊗ v 1) ⊗ v 1 ⊖ v 0 ⊗ (v 1 ⊗ v 3)) ⊗ v 3) tt

pub less_sum : (e m : Fraction) → AreEqual (fraction_sub (fraction (pos 0) 1) m) (fraction_sub e (fraction_add e m))
less_sum e m =
    ring (e.numerator ∷ pos e.denominator ∷ m.numerator ∷ pos m.denominator ∷ [])
    ((lit (pos 0) ⊗ v 3 ⊖ v 2 ⊗ lit (pos 1)) ⊗ (v 1 ⊗ (v 1 ⊗ v 3)))
    ((v 0 ⊗ (v 1 ⊗ v 3) ⊖ (v 0 ⊗ v 3 ⊕ v 2 ⊗ v 1) ⊗ v 1) ⊗ (lit (pos 1) ⊗ v 3)) tt
