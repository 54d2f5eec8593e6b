-- Where each entry of a row lies in that of another, so do the sums over the rows, whatever the coefficients are.
use Rattle.std.proofs.Common.{ℕ, zero, suc, arith, List, [], ◌∷◌, ℤ, pos, ◌*ℤ◌, ◌≤ℤ◌}
use Rattle.std.proofs.lemmas.Int.{ints}
use Rattle.spec_numbers.proofs.Order.{lin, le-mul}
use Rattle.spec_numbers.proofs.Whole.{mul_comm}
use Rattle.spec_chebyshev.specs.declared.ends.Ival62.{Ival62}
use Rattle.spec_motions.specs.Sums.{times, multiples, sum_low, sum_high}
use Rattle.spec_bounds.proofs.Covers.{Covers, IsOrdered}
use Rattle.spec_bounds.proofs.Products.{least-falls_beside, greatest-grows_beside}

-- every entry of a row has its ends in order, and lies in that of another row
pub record CoversRow (outer inner : ℕ → Ival62) : Type 0 where
  pub ordered : (k : ℕ) → IsOrdered (inner k)
  pub covers : (k : ℕ) → Covers (outer k) (inner k)

module _ (q r : ℕ → Ival62) (h : CoversRow q r) where
  pub sum_low-falls : (k : ℕ) (cs : List Ival62) → sum_low q k cs ≤ℤ sum_low r k cs
  sum_low-falls k [] = omega (arith, lin)
  sum_low-falls k (c ∷ cs) = omega (arith, lin, least-falls_beside c (q k) (r k) (h.ordered k) (h.covers k), sum_low-falls (suc k) cs)

  pub sum_high-grows : (k : ℕ) (cs : List Ival62) → sum_high r k cs ≤ℤ sum_high q k cs
  sum_high-grows k [] = omega (arith, lin)
  sum_high-grows k (c ∷ cs) = omega (arith, lin, greatest-grows_beside c (q k) (r k) (h.ordered k) (h.covers k), sum_high-grows (suc k) cs)

-- ---- k times the numbers of an entry
times_in_order : (k : ℕ) (a b : ℤ) → a ≤ℤ b → (pos k *ℤ a) ≤ℤ (pos k *ℤ b)
times_in_order k a b h = rw (mul_comm (pos k) a, mul_comm (pos k) b) (le-mul a b (pos k) (omega (arith, ints)) h)

Covers-times : (k : ℕ) (f e : Ival62) → Covers f e → Covers (times k f) (times k e)
Covers-times k f e h = record { low = times_in_order k f.lo e.lo h.low; high = times_in_order k e.hi f.hi h.high }

module _ (q r : ℕ → Ival62) (h : CoversRow q r) where
  multiples_ordered : (k : ℕ) → IsOrdered (multiples r k)
  multiples_ordered zero = omega (arith, lin)
  multiples_ordered (suc k) = times_in_order (suc k) (r k).lo (r k).hi (h.ordered k)

  multiples_cover : (k : ℕ) → Covers (multiples q k) (multiples r k)
  multiples_cover zero = record { low = omega (arith, lin); high = omega (arith, lin) }
  multiples_cover (suc k) = Covers-times (suc k) (q k) (r k) (h.covers k)

  pub CoversRow-multiples : CoversRow (multiples q) (multiples r)
  CoversRow-multiples = record { ordered = multiples_ordered; covers = multiples_cover }
