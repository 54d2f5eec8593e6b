-- Steps whose value is the signed square of another step's, and nothing else.
use Rattle.std.specs.Prelude.{◌≡◌, ℕ, ◌<◌, pos}
use Rattle.spec_text.specs.declared.decimals.Decimal.{Decimal}
use Rattle.spec_steps.specs.ColumnTerms.{ColumnTerm, cosine, difference, product, signed_square}
use Rattle.column_steps.specs.Listed.{Listed, listed_term}

-- the term is the cosine 0
pub record IsZeroCosine (t : ColumnTerm) : Type 0 where
  pub number : Decimal
  pub zero : number.mant ≡ pos 0
  pub is : t ≡ cosine number

-- it is a product with the signed square of the cosine 0
pub record HasZeroFactor (t : ColumnTerm) : Type 0 where
  pub first : ColumnTerm
  pub second : ColumnTerm
  pub zero : IsZeroCosine first
  pub is : t ≡ product (signed_square first) second

-- step number place is the signed square of the earlier step number x, less a product with the signed square of the cosine 0
pub record IsSquareAlone (l : Listed) (place x : ℕ) : Type 0 where
  pub below : x < place
  pub rest : ColumnTerm
  pub zero : HasZeroFactor rest
  pub is : listed_term l place ≡ difference (signed_square (listed_term l x)) rest
