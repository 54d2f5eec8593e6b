-- The size of a number in units of 2^-24 km, rounded down.
use Rattle.std.specs.Prelude.{◌≡◌, ℕ, ◌+◌, ◌*◌, ◌^◌, ◌<◌, ◌≤◌, neg_ℤ, pos, ◌≤ℤ◌, unsigned_abs}
use Rattle.spec_text.specs.declared.decimals.Decimal.{Decimal}

-- size * 2^24 / 10^places rounded down, and what is left is 0 where the quotient is exact
pub record IsQuotient (size places quotient left : ℕ) : Type 0 where
  pub rest : ℕ
  pub parts : quotient * 10 ^ places + rest ≡ size * 2 ^ 24
  pub less : rest < 10 ^ places
  pub none : left ≡ 0 → rest ≡ 0
  pub some : 1 ≤ left → 1 ≤ rest

-- the same of a number that is below 2^36 in size by its exponent
pub record IsOf (d : Decimal) (quotient left : ℕ) : Type 0 where
  pub size : unsigned_abs d.mant ≤ 2 ^ 63
  pub small : d.exp ≤ℤ neg_ℤ (pos 9)
  pub is : IsQuotient (unsigned_abs d.mant) (unsigned_abs d.exp) quotient left
