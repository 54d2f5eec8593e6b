-- The rows of slopes and of their changes: sizes, order, and sums over them.
use Rattle.std.proofs.Common.{◌≡◌, ℕ, suc, ◌-◌, ◌*◌, ◌^◌, ◌<◌, ◌≤◌, arith, refl, ap, ◌∙◌, List, [], ◌∷◌, length, drop, ℤ, pos, ◌+ℤ◌, ◌≤ℤ◌}
use Rattle.std.proofs.lemmas.Int.{ints}
use Rattle.std.proofs.lemmas.Nat.{mul-le}
use Rattle.spec_numbers.proofs.Order.{le-mul}
use Rattle.spec_numbers.proofs.Whole.{mul_comm}
use Rattle.spec_intervals.specs.Interval.{least4, greatest4}
use Rattle.spec_chebyshev.specs.declared.ends.Ival62.{Ival62}
use Rattle.spec_chebyshev.specs.Rows.{u_row, r_row, u_size, r_size, entry, EndsWithin, IsArguments}
use Rattle.spec_chebyshev.proofs.RowEnds.{EndsWithin-u, EndsWithin-r}
use Rattle.spec_chebyshev.proofs.Arguments.{within_size}
use Rattle.spec_chebyshev.proofs.Bounds.{r_product}
use Rattle.spec_motions.specs.RowSizes.{entry_size}
use Rattle.spec_motions.specs.Sums.{times, multiples, sum_low, sum_high}
use Rattle.spec_motions.proofs.RowSums.{multiple_size, low_same, high_same}
use Rattle.cheby_enclose.specs.OrderedRows.{IsOrderedShorterRow}
use Rattle.cheby_enclose.specs.ProductSizes.{product_sizes, IsSummable}
use Rattle.cheby_enclose.proofs.ProductSums.{entry_size-within, product_sizes-le, product_sizes-grow}
use Rattle.cheby_difference.specs.Slopes.{AreSlopes}

-- ---- the greatest multiples
u_fits : (k m : ℕ) → k < 32 → m ≤ u_size k * 2 ^ 50 → suc k * m < 2 ^ 63
u_fits k m few small =
    let p : suc k * m ≤ 32 * (32 * 2 ^ 50) = mul-le (suc k) m 32 (32 * 2 ^ 50) (omega arith) (omega (arith, small, few)) in
    omega (arith, p)

r_fits : (k m : ℕ) → k < 32 → m ≤ r_size k * 2 ^ 44 → suc k * m < 2 ^ 63
r_fits k m few small =
    let s : k * suc k * suc (suc k) ≤ 32736 = r_product k few in
    let p : suc k * m ≤ 32 * (10912 * 2 ^ 44) = mul-le (suc k) m 32 (10912 * 2 ^ 44) (omega arith) (omega (arith, small, s)) in
    omega (arith, p)

-- ---- the rows before they are multiplied
module _ (x : Ival62) (h : IsArguments x) (row : List Ival62) (k : ℕ) (few : k < 32) where
  pub u_multiple_fits : entry row k ≡ u_row x k → suc k * entry_size row k < 2 ^ 63
  u_multiple_fits is = u_fits k (entry_size row k) few (entry_size-within row k (u_size k * 2 ^ 50) (rw is (EndsWithin-u x h k)))

  pub r_multiple_fits : entry row k ≡ r_row x k → suc k * entry_size row k < 2 ^ 63
  r_multiple_fits is = r_fits k (entry_size row k) few (entry_size-within row k (r_size k * 2 ^ 44) (rw is (EndsWithin-r x h k)))

-- ---- and after
slope_size : (row : List Ival62) (k m : ℕ) (e : Ival62) → EndsWithin m e → entry row k ≡ times (suc k) e → entry_size row k ≤ suc k * m
slope_size row k m e h is =
    let p = multiple_size (suc k) e.lo m (within_size e.lo m h.lo) in
    let q = multiple_size (suc k) e.hi m (within_size e.hi m h.hi) in
    rw is (omega (arith, p, q))

module _ (row : List Ival62) (n : ℕ) (f : ℕ → Ival62) (most : ℕ → ℕ) (few : n ≤ 32) (is : AreSlopes n row f) where
  sizes : ((k : ℕ) → EndsWithin (most k) (f k)) → (k : ℕ) → k < n - 1 → entry_size row k ≤ suc k * most k
  sizes within k h = slope_size row k (most k) (f k) (within k) (is k (omega (arith, h)))

  summable : ((k : ℕ) → EndsWithin (most k) (f k)) → ((k m : ℕ) → k < 32 → m ≤ most k → suc k * m < 2 ^ 63) → product_sizes (λ k. suc k * most k) 31 ≤ 2 ^ 125 - 1 → IsSummable (2 ^ 125 - 1) row (n - 1)
  summable within fits total = record {
    small = λ k h.
        let p = sizes within k h in
        let q = fits k (most k) (omega (arith, h, few)) (omega arith) in
        omega (arith, p, q);
    total =
        let p = product_sizes-le (entry_size row) (λ k. suc k * most k) (n - 1) (sizes within) in
        let q = product_sizes-grow (λ k. suc k * most k) (n - 1) 31 (omega (arith, few)) in
        omega (arith, p, q, total);
  }

below : (a b : ℕ) → a ≡ b → b ≤ 2 ^ 125 - 1 → a ≤ 2 ^ 125 - 1
below a b e h = omega (arith, e, h)

u_total : product_sizes (λ k. suc k * (u_size k * 2 ^ 50)) 31 ≡ 10416 * 2 ^ 110
u_total = refl

r_total : product_sizes (λ k. suc k * (r_size k * 2 ^ 44)) 31 ≡ 2062368 * 2 ^ 104
r_total = refl

module _ (x : Ival62) (h : IsArguments x) (row : List Ival62) (n : ℕ) (few : n ≤ 32) where
  pub IsSummable-slopes : AreSlopes n row (u_row x) → IsSummable (2 ^ 125 - 1) row (n - 1)
  IsSummable-slopes is = summable row n (u_row x) (λ k. u_size k * 2 ^ 50) few is (EndsWithin-u x h) u_fits (below _ (10416 * 2 ^ 110) u_total (omega arith))

  pub IsSummable-changes : AreSlopes n row (r_row x) → IsSummable (2 ^ 125 - 1) row (n - 1)
  IsSummable-changes is = summable row n (r_row x) (λ k. r_size k * 2 ^ 44) few is (EndsWithin-r x h) r_fits (below _ (2062368 * 2 ^ 104) r_total (omega arith))

-- ---- their entries are in order
times_ordered : (k : ℕ) (e : Ival62) → e.lo ≤ℤ e.hi → (times k e).lo ≤ℤ (times k e).hi
times_ordered k e h = rw (mul_comm (pos k) e.lo, mul_comm (pos k) e.hi) (le-mul e.lo e.hi (pos k) (omega (arith, ints)) h)

pub IsOrdered-slopes : (row : List Ival62) (n : ℕ) (f : ℕ → Ival62) → AreSlopes n row f → ((k : ℕ) → (f k).lo ≤ℤ (f k).hi) → IsOrderedShorterRow row n
IsOrdered-slopes row n f is ordered k h = rw (is k h) (times_ordered (suc k) (f k) (ordered k))

-- ---- and sums over them are those of k C_k X_(k-1)
low_shifted : (g : ℕ → Ival62) (k : ℕ) (cs : List Ival62) → sum_low (λ j. g (suc j)) k cs ≡ sum_low g (suc k) cs
low_shifted g k [] = refl
low_shifted g k (c ∷ cs) = ap (λ (z : ℤ). least4 c.lo c.hi (g (suc k)).lo (g (suc k)).hi +ℤ z) (low_shifted g (suc k) cs)

high_shifted : (g : ℕ → Ival62) (k : ℕ) (cs : List Ival62) → sum_high (λ j. g (suc j)) k cs ≡ sum_high g (suc k) cs
high_shifted g k [] = refl
high_shifted g k (c ∷ cs) = ap (λ (z : ℤ). greatest4 c.lo c.hi (g (suc k)).lo (g (suc k)).hi +ℤ z) (high_shifted g (suc k) cs)

pub low_slopes : (row : List Ival62) (f : ℕ → Ival62) (cs : List Ival62) → AreSlopes (length cs) row f → sum_low (entry row) 0 (drop 1 cs) ≡ sum_low (multiples f) 1 (drop 1 cs)
low_slopes row f [] is = refl
low_slopes row f (c ∷ cs) is = low_same (entry row) (λ k. multiples f (suc k)) 0 cs (λ j p. is j (omega (arith, p))) ∙ low_shifted (multiples f) 0 cs

pub high_slopes : (row : List Ival62) (f : ℕ → Ival62) (cs : List Ival62) → AreSlopes (length cs) row f → sum_high (entry row) 0 (drop 1 cs) ≡ sum_high (multiples f) 1 (drop 1 cs)
high_slopes row f [] is = refl
high_slopes row f (c ∷ cs) is = high_same (entry row) (λ k. multiples f (suc k)) 0 cs (λ j p. is j (omega (arith, p))) ∙ high_shifted (multiples f) 0 cs
