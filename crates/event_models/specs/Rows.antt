-- Models of the entries of a row, in a unit that all have in common.
use Rattle.std.specs.Prelude.{◌≡◌, ℕ, zero, suc, ◌+◌, ◌-◌, ◌*◌, ◌/◌, ◌^◌, ◌<◌, ◌≤◌, All, List, [], ◌∷◌, length, take, slice_index_or, ℤ, pos, neg_ℤ, ◌+ℤ◌, ◌-ℤ◌, ◌*ℤ◌, unsigned_abs}
use Rattle.spec_numbers.specs.Numbers.{floor_div}
use Rattle.spec_chebyshev.specs.declared.ends.Ival62.{Ival62}
use Rattle.spec_chebyshev.specs.Differences.{IsArgument}
use Rattle.spec_chebyshev.specs.Rows.{IsArguments, t_row, t_unit, u_row, u_unit}
use Rattle.spec_covers.specs.Series.{argument_unit, double_unit, of_entry}
use Rattle.spec_models.specs.Models.{Covers, Model, coefficient, model, sizes}
use Rattle.span_models.specs.declared.model.TheConstants.{TERMS}
use Rattle.event_models.specs.declared.rows.Kind.{Kind}
use Rattle.event_models.specs.declared.rows.Kind.TheVariants.{First, Second}
use Rattle.event_models.specs.declared.rows.RowModel.{RowModel}
use Rattle.event_models.specs.declared.rows.Line.{Line}

-- how many coefficients a model has
abbrev pub terms : ℕ
terms = TERMS

abbrev pub row_limit : ℕ
row_limit = 2 ^ 55

abbrev pub line_limit : ℕ
line_limit = 2 ^ 60

-- the entries of both rows are modelled in units of 2^-42
abbrev pub unit : ℕ
unit = 42

-- ---- a model of an entry in units of 2^-unit
abbrev pub of_row : ℕ → RowModel → Model
of_row n r = model r.coefficients r.error (neg_ℤ (pos n))

abbrev pub IsSmallNumber : ℤ → Type 0
IsSmallNumber z = unsigned_abs z ≤ row_limit

pub record AreNumbers (xs : List ℤ) : Type 0 where
  pub count : length xs ≡ terms
  pub small : All IsSmallNumber xs

pub record IsRow (r : RowModel) : Type 0 where
  pub numbers : AreNumbers r.coefficients
  pub size : r.size ≡ sizes r.coefficients
  pub light : r.size ≤ terms * row_limit
  pub error : r.error ≤ row_limit

-- an entry as sums take it, which may be a multiple
abbrev pub sum_limit : ℕ
sum_limit = 2 ^ 60

pub record IsSumRow (r : RowModel) : Type 0 where
  pub count : length r.coefficients ≡ terms
  pub small : (k : ℕ) → k < terms → unsigned_abs (slice_index_or r.coefficients k (pos 0)) ≤ sum_limit
  pub size : r.size ≡ sizes r.coefficients
  pub light : r.size ≤ terms * sum_limit
  pub error : r.error ≤ sum_limit

-- an entry that is not there
abbrev pub no_row : RowModel
no_row = record { coefficients = []; size = 0; error = 0 }

abbrev pub AreSumRows : ℕ → List RowModel → Type 0
AreSumRows n rows = (k : ℕ) → k < n → IsSumRow (slice_index_or rows k no_row)

-- the first entries cover those of a row at an argument, in units of 2^-n
abbrev pub AreEntries : ℕ → ℤ → ℤ → (ℕ → Ival62) → ℕ → List RowModel → Type 0
AreEntries n p q row count rows = (k : ℕ) → k < count → Covers (of_row unit (slice_index_or rows k no_row)) p q (of_entry n (row k))

-- ---- the argument, in units of 2^-unit
abbrev pub of_line : ℕ → Line → Model
of_line n l = model (l.middle ∷ l.slope ∷ []) 3 (neg_ℤ (pos n))

pub record IsLine (l : Line) : Type 0 where
  pub middle : unsigned_abs l.middle ≤ line_limit
  pub slope : unsigned_abs l.slope ≤ line_limit

-- ---- twice the argument times an entry, less the one before
-- all coefficients but the last, so that the product has no more than there are
abbrev pub without_last : List ℤ → List ℤ
without_last xs = take (terms - 1) xs

-- the coefficient before
abbrev pub lower : List ℤ → ℕ → ℤ
lower xs zero = pos 0
lower xs (suc k) = coefficient xs k

abbrev pub step_number : Line → List ℤ → List ℤ → ℕ → ℤ
step_number l xs ys k =
    floor_div (l.middle *ℤ coefficient (without_last xs) k +ℤ l.slope *ℤ lower (without_last xs) k) (2 ^ 59) -ℤ coefficient ys k

abbrev pub last_size : List ℤ → ℕ
last_size xs = unsigned_abs (coefficient xs (terms - 1))

-- the error of the product, in units of 2^-59 times the unit of the entry
abbrev pub product_error : Line → RowModel → ℕ
product_error l r = (unsigned_abs l.middle + unsigned_abs l.slope) * (r.error + last_size r.coefficients) + r.size * 3 + 3 * (r.error + last_size r.coefficients)

abbrev pub step_error : Line → RowModel → RowModel → ℕ
step_error l r b = product_error l r / 2 ^ 59 + b.error + (terms + 3)

pub record IsStep (l : Line) (r b made : RowModel) : Type 0 where
  pub count : length made.coefficients ≡ terms
  pub numbers : (k : ℕ) → k < terms → slice_index_or made.coefficients k (pos 0) ≡ step_number l r.coefficients b.coefficients k
  pub error : made.error ≡ step_error l r b

-- a row model of these numbers
pub record IsRowOf (xs : List ℤ) (e : ℕ) (made : RowModel) : Type 0 where
  pub numbers : made.coefficients ≡ xs
  pub error : made.error ≡ e

-- ---- the row of each kind, and how great its entries are
abbrev pub kind_unit : Kind → ℕ
kind_unit First = t_unit
kind_unit Second = u_unit

abbrev pub kind_row : Kind → Ival62 → ℕ → Ival62
kind_row First x = t_row x
kind_row Second x = u_row x

abbrev pub greatest : Kind → ℕ → ℕ
greatest First k = 1
greatest Second k = suc k

-- an entry of a row covers the one with a number
abbrev pub IsAt : Kind → RowModel → ℤ → ℤ → Ival62 → ℕ → Type 0
IsAt kind made p q x k = Covers (of_row unit made) p q (of_entry (kind_unit kind) (kind_row kind x k))

-- ---- the first entries of both rows
abbrev pub IsFirst : RowModel → Type 0
IsFirst made = (kind : Kind) (p q : ℤ) (x : Ival62) → IsArgument p q → IsAt kind made p q x 0

-- the entry with a number, at each argument that a line covers
abbrev pub IsEntry : Kind → Line → ℕ → RowModel → Type 0
IsEntry kind l k made = (p q : ℤ) (x : Ival62) → IsArgument p q → IsArguments x → Covers (of_line 60 l) p q (of_entry argument_unit x)
    → Covers (of_line 59 l) p q (of_entry double_unit x) → IsAt kind made p q x k

abbrev pub IsSecond : Kind → Line → RowModel → Type 0
IsSecond kind l made = IsEntry kind l 1 made

-- ---- an entry of which its size alone is known
abbrev pub IsSized : ℕ → RowModel → Type 0
IsSized size made = (kind : Kind) (p q : ℤ) (x : Ival62) (k : ℕ) → greatest kind k ≤ size → IsArgument p q → IsArguments x → IsAt kind made p q x k

-- ---- the entries before the one with a number
abbrev pub AreRows : ℕ → List RowModel → Type 0
AreRows n rows = (k : ℕ) → k < n → IsRow (slice_index_or rows k no_row)

abbrev pub AreEntriesBefore : Kind → Line → ℕ → List RowModel → Type 0
AreEntriesBefore kind l n rows = (k : ℕ) → k < n → IsEntry kind l k (slice_index_or rows k no_row)
