-- The sizes of sums of products.
use Rattle.std.proofs.Common.{◌≡◌, ℕ, zero, suc, ◌+◌, ◌*◌, ◌^◌, ◌<◌, ◌≤◌, arith, ap, List, ◌⊎◌, inl, inr}
use Rattle.std.proofs.lemmas.Bool.{cases_lt}
use Rattle.std.proofs.lemmas.Nat.{mul-le}
use Rattle.spec_chebyshev.specs.declared.ends.Ival62.{Ival62}
use Rattle.spec_chebyshev.specs.Rows.{entry, EndsWithin}
use Rattle.spec_chebyshev.proofs.Arguments.{within_size}
use Rattle.spec_motions.specs.RowSizes.{entry_size, IsSmallRow}
use Rattle.cheby_enclose.specs.ProductSizes.{product_sizes, IsSummable}

pub sizes_more : (size : ℕ → ℕ) (k : ℕ) → product_sizes size (k + 1) ≡ product_sizes size k + 2 ^ 60 * size k
sizes_more size k = let e : k + 1 ≡ suc k = omega arith in ap (product_sizes size) e

pub product_sizes-grow : (size : ℕ → ℕ) (j n : ℕ) → j ≤ n → product_sizes size j ≤ product_sizes size n
product_sizes-grow size j zero h = let e : j ≡ 0 = omega (arith, h) in rw e (omega arith)
product_sizes-grow size j (suc n) h = by (product_sizes-grow size j n) (cases_lt n j)
  where
    by : (j ≤ n → product_sizes size j ≤ product_sizes size n) → (n < j) ⊎ (j ≤ n) → product_sizes size j ≤ product_sizes size (suc n)
    by ih (inl p) = let e : j ≡ suc n = omega arith in rw e (omega arith)
    by ih (inr p) = let q = ih p in omega (arith, q)

pub product_sizes-le : (a b : ℕ → ℕ) (n : ℕ) → ((k : ℕ) → k < n → a k ≤ b k) → product_sizes a n ≤ product_sizes b n
product_sizes-le a b zero h = omega arith
product_sizes-le a b (suc n) h =
    let p = product_sizes-le a b n (λ k q. h k (omega (arith, q))) in
    let q : 2 ^ 60 * a n ≤ 2 ^ 60 * b n = mul-le (2 ^ 60) (a n) (2 ^ 60) (b n) (omega arith) (h n (omega arith)) in
    omega (arith, p, q)

pub entry_size-within : (row : List Ival62) (k m : ℕ) → EndsWithin m (entry row k) → entry_size row k ≤ m
entry_size-within row k m h =
    let p = within_size (entry row k).lo m h.lo in
    let q = within_size (entry row k).hi m h.hi in
    omega (arith, p, q)

-- a row of small entries
module _ (row : List Ival62) where
  small_sizes : (n : ℕ) → IsSmallRow row n → product_sizes (entry_size row) n ≤ n * 2 ^ 120
  small_sizes zero h = omega arith
  small_sizes (suc n) h =
      let p = small_sizes n (λ k q. h k (omega (arith, q))) in
      let q = entry_size-within row n (2 ^ 60) (h n (omega arith)) in
      omega (arith, p, q)

  pub IsSummable-small : (n : ℕ) → n ≤ 32 → IsSmallRow row n → IsSummable (2 ^ 125) row n
  IsSummable-small n few h = record {
    small = λ k p. let q = entry_size-within row k (2 ^ 60) (h k p) in omega (arith, q);
    total = let p = small_sizes n h in omega (arith, p, few);
  }
