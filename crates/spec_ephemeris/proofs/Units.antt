-- The powers of ten of a decimal, in units of 10^-140.
use Rattle.std.proofs.Common.{◌≡◌, ℕ, ◌+◌, ◌-◌, ◌*◌, ◌^◌, arith, refl, ◌∙◌, [], ◌∷◌, ℤ, pos, negsuc, ◌+ℤ◌, ◌*ℤ◌, neg_ℤ, ◌≤ℤ◌}
use Rattle.std.proofs.lemmas.Int.{ints}
use borrow.Author.Differences.{up, down}
use Rattle.spec_numbers.proofs.Ring.{v, k as lit, ◌⊗◌, ring}
use Rattle.spec_numbers.proofs.Integers.{joined_powers}
use Rattle.spec_ephemeris.specs.Series.{to_nat}

pub units_below : (q : ℤ) → neg_ℤ (pos 140) ≤ℤ q → down q + (140 - down q) ≡ 140
units_below (pos n) h = refl
units_below (negsuc n) h = omega (arith, ints, h)

pub units_above : (q z : ℤ) → pos 140 +ℤ q ≡ z → neg_ℤ (pos 140) ≤ℤ q → up q + (140 - down q) ≡ to_nat z
units_above (pos n) (pos m) e h = omega (arith, ints, e)
units_above (pos n) (negsuc m) e h = omega (arith, ints, e)
units_above (negsuc n) (pos m) e h = omega (arith, ints, e, h)
units_above (negsuc n) (negsuc m) e h = omega (arith, ints, e, h)

pub all_units : (z : ℤ) (r k : ℕ) → r + k ≡ 140 → (z *ℤ pos (10 ^ r * 2 ^ 0)) *ℤ pos (10 ^ k) ≡ z *ℤ pos (10 ^ 140)
all_units z r k e =
    ring (z ∷ pos (10 ^ r) ∷ pos (10 ^ k) ∷ []) ((v 0 ⊗ (v 1 ⊗ lit (pos (2 ^ 0)))) ⊗ v 2) (v 0 ⊗ (v 1 ⊗ v 2)) tt ∙ joined_powers z r k 140 e
