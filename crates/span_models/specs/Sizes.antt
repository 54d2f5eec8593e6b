-- How large the numbers of a model in code are.
use Rattle.std.specs.Prelude.{◌≡◌, ℕ, ◌*◌, ◌^◌, ◌≤◌, List, length, All, ℤ, unsigned_abs}
use Rattle.spec_models.specs.Models.{Model, sizes}

-- how many coefficients a model has
abbrev pub terms : ℕ
terms = 10

-- the greatest size of a coefficient and of an error
abbrev pub size_limit : ℕ
size_limit = 2 ^ 60

-- the size below which numbers are brought that are too large
abbrev pub settled_limit : ℕ
settled_limit = 2 ^ 59

-- the greatest size of an exponent
abbrev pub exponent_limit : ℕ
exponent_limit = 2 ^ 20

-- whether a number is at most so large
abbrev pub IsWithin : ℕ → ℤ → Type 0
IsWithin limit z = unsigned_abs z ≤ limit

-- as many numbers, none larger than this
pub record AreWithin (limit : ℕ) (xs : List ℤ) : Type 0 where
  pub count : length xs ≡ terms
  pub small : All (IsWithin limit) xs

-- a model of the code
pub record IsSmall (m : Model) : Type 0 where
  pub coefficients : AreWithin size_limit m.coefficients
  pub error : m.error ≤ size_limit
  pub exponent : unsigned_abs m.exponent ≤ exponent_limit

-- with the sum of its coefficients' magnitudes
pub record IsKept (m : Model) (size : ℕ) : Type 0 where
  pub small : IsSmall m
  pub same : size ≡ sizes m.coefficients
  pub light : size ≤ terms * 2 ^ 60
