-- The least and the greatest product of a pair of one sign and an entry.
use Rattle.std.proofs.Common.{◌≡◌, arith, ℤ, pos, ◌*ℤ◌, ◌≤ℤ◌}
use Rattle.std.proofs.lemmas.Int.{ints, clamps}
use Rattle.std.specs.Int.{int_min, int_max}
use Rattle.spec_intervals.specs.Interval.{least4, greatest4}
use Rattle.spec_numbers.proofs.Order.{lin, le-mul, le-mul_neg}
use Rattle.spec_numbers.proofs.Whole.{mul_comm}

-- the least and the greatest of two numbers that stand in order, and of two that do not
pub in_order : (p q : ℤ) → p ≤ℤ q → (p ≡ int_min p q) × (q ≡ int_max p q)
in_order p q h = (omega (arith, ints, clamps), omega (arith, ints, clamps))

pub turned : (p q : ℤ) → q ≤ℤ p → (q ≡ int_min p q) × (p ≡ int_max p q)
turned p q h = (omega (arith, ints, clamps), omega (arith, ints, clamps))

firsts : (p q r s : ℤ) → p ≤ℤ q → r ≤ℤ s → (int_min p r ≡ int_min (int_min p q) (int_min r s)) × (int_max q s ≡ int_max (int_max p q) (int_max r s))
firsts p q r s h k = (omega (arith, ints, clamps), omega (arith, ints, clamps))

seconds : (p q r s : ℤ) → q ≤ℤ p → s ≤ℤ r → (int_min q s ≡ int_min (int_min p q) (int_min r s)) × (int_max p r ≡ int_max (int_max p q) (int_max r s))
seconds p q r s h k = (omega (arith, ints, clamps), omega (arith, ints, clamps))

module _ (a b c d : ℤ) (ordered : a ≤ℤ b) (entry_ordered : c ≤ℤ d) where
  -- neither a nor b is below 0
  pub products_above : pos 0 ≤ℤ a → (int_min (a *ℤ c) (b *ℤ c) ≡ least4 a b c d) × (int_max (a *ℤ d) (b *ℤ d) ≡ greatest4 a b c d)
  products_above h =
      let k : pos 0 ≤ℤ b = omega (arith, lin) in
      firsts (a *ℤ c) (a *ℤ d) (b *ℤ c) (b *ℤ d) (rw (mul_comm a c, mul_comm a d) (le-mul c d a h entry_ordered)) (rw (mul_comm b c, mul_comm b d) (le-mul c d b k entry_ordered))

  -- neither is above 0
  pub products_below : b ≤ℤ pos 0 → (int_min (a *ℤ d) (b *ℤ d) ≡ least4 a b c d) × (int_max (a *ℤ c) (b *ℤ c) ≡ greatest4 a b c d)
  products_below k =
      let h : a ≤ℤ pos 0 = omega (arith, lin) in
      seconds (a *ℤ c) (a *ℤ d) (b *ℤ c) (b *ℤ d) (rw (mul_comm a c, mul_comm a d) (le-mul_neg c d a h entry_ordered)) (rw (mul_comm b c, mul_comm b d) (le-mul_neg c d b k entry_ordered))
