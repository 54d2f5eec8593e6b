-- The coefficients of a product of two polynomials, and how large those are that are left out.
use Rattle.std.specs.Prelude.{◌≡◌, ℕ, zero, suc, ◌+◌, ◌*◌, ◌<◌, List, [], ◌∷◌, drop, slice_index_or, ℤ, pos, unsigned_abs}
use Rattle.spec_models.specs.Models.{products_upto, sizes}
use Rattle.span_models.specs.Sizes.{terms}

-- the sum of a_i b_j over i + j = k
abbrev pub column : List ℤ → List ℤ → ℕ → ℤ
column xs ys k = products_upto (suc k) k xs ys

-- the first n coefficients of a product
abbrev pub AreColumns : List ℤ → List ℤ → ℕ → List ℤ → Type 0
AreColumns xs ys n zs = (k : ℕ) → k < n → slice_index_or zs k (pos 0) ≡ column xs ys k

-- the sum of |a_i| |b_j| over i + j >= n
abbrev pub tail_sizes : List ℤ → List ℤ → ℕ → ℕ
tail_sizes [] ys n = 0
tail_sizes (x ∷ xs) ys zero = unsigned_abs x * sizes ys + tail_sizes xs ys zero
tail_sizes (x ∷ xs) ys (suc n) = unsigned_abs x * sizes (drop (suc n) ys) + tail_sizes xs ys n

-- no coefficient but the first
abbrev pub IsConstant : List ℤ → Type 0
IsConstant xs = (k : ℕ) → suc k < terms → slice_index_or xs (suc k) (pos 0) ≡ pos 0
