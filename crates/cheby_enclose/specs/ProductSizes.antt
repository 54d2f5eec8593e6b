-- Which rows have sums of products that fit 128 bits.
use Rattle.std.specs.Prelude.{ℕ, zero, suc, ◌+◌, ◌*◌, ◌^◌, ◌<◌, ◌≤◌, List}
use Rattle.spec_chebyshev.specs.declared.ends.Ival62.{Ival62}
use Rattle.spec_motions.specs.RowSizes.{entry_size}

-- how large the sum of C_k X_k for k below a count can be, where C_k is at most 2^60 in size and X_k at most `size k`
abbrev pub product_sizes : (ℕ → ℕ) → ℕ → ℕ
product_sizes size zero = 0
product_sizes size (suc k) = product_sizes size k + 2 ^ 60 * size k

-- each of the first n entries fits 64 bits, and the sum of their products with coefficients is at most a limit in size
pub record IsSummable (limit : ℕ) (row : List Ival62) (n : ℕ) : Type 0 where
  pub small : (k : ℕ) → k < n → entry_size row k < 2 ^ 63
  pub total : product_sizes (entry_size row) n ≤ limit
