-- Sums of coefficients times the models of the entries of a row.
use Rattle.std.specs.Prelude.{◌≡◌, ℕ, zero, suc, ◌+◌, ◌-◌, ◌*◌, ◌^◌, ◌<◌, ◌≤◌, List, drop, length, map, slice_index_or, ℤ, pos, ◌+ℤ◌, ◌*ℤ◌, ◌≤ℤ◌, unsigned_abs}
use Rattle.spec_models.specs.Models.{Covers, Model, coefficient, model}
use Rattle.spec_motions.specs.Enclosures.{sum_exponent}
use Rattle.event_models.specs.declared.rows.RowModel.{RowModel}
use Rattle.event_models.specs.declared.sums.Wide.{Wide}
use Rattle.event_models.specs.declared.sums.TheConstants.{HALF}
use Rattle.spec_chebyshev.specs.declared.ends.Ival62.{Ival62}
use Rattle.spec_chebyshev.specs.Differences.{IsArgument}
use Rattle.spec_ephemeris.specs.declared.granule.Rounded.{Rounded}
use Rattle.spec_motions.specs.Pairs.{term_of}
use Rattle.spec_covers.specs.Series.{sums}
use Rattle.event_models.specs.Rows.{AreEntries, no_row, terms, unit}

-- a sum of coefficients times models of entries
abbrev pub of_sum : Wide → Model
of_sum w = model w.coefficients w.error (sum_exponent unit)

-- so many coefficients, the first ones, are at most so large
abbrev pub AreNumbersWithin : ℕ → ℕ → List ℤ → Type 0
AreNumbersWithin count limit xs = (k : ℕ) → k < count → unsigned_abs (slice_index_or xs k (pos 0)) ≤ limit

-- so many products of numbers of a coefficient and an entry
pub record IsWideWithin (count : ℕ) (w : Wide) : Type 0 where
  pub terms_there : length w.coefficients ≡ terms
  pub small : AreNumbersWithin terms (count * 2 ^ 120) w.coefficients
  pub error : w.error ≤ count * 2 ^ 121

-- ---- of all coefficients from a place on, where the first entries of rows cover those of a row, in units of 2^-n
abbrev pub IsSumFrom : List Rounded → List RowModel → ℕ → Wide → Type 0
IsSumFrom pairs rows from w = (n : ℕ) (p q : ℤ) (row : ℕ → Ival62) → IsArgument p q → AreEntries n p q row (length pairs) rows
    → Covers (of_sum w) p q (sums n row from (map term_of (drop from pairs)))

abbrev pub IsSumOf : List Rounded → List RowModel → ℕ → Wide → Type 0
IsSumOf pairs rows from w = IsSumFrom pairs rows from w

-- ---- of the last so many coefficients, each of which is its lower end or lies between this and the next number
-- the coefficient, and its entry, before the last so many
abbrev pub no_pair : Rounded
no_pair = record { lo = pos 0; hi = pos 0 }

abbrev pub pair_before : List Rounded → ℕ → Rounded
pair_before pairs n = slice_index_or pairs (length pairs - 1 - n) no_pair

abbrev pub row_before : List Rounded → List RowModel → ℕ → RowModel
row_before pairs rows n = slice_index_or rows (length pairs - 1 - n) no_row

-- coefficient k of their sum
unfoldable pub number_of_sum : List Rounded → List RowModel → ℕ → ℕ → ℤ
number_of_sum pairs rows k zero = pos 0
number_of_sum pairs rows k (suc n) =
    number_of_sum pairs rows k n +ℤ (pair_before pairs n).lo *ℤ coefficient (row_before pairs rows n).coefficients k

-- the error of their sum: with one more, an entry's error times the lower end, and as much as the entry times 1
abbrev pub added_error : ℤ → RowModel → ℕ → ℕ
added_error z r own = own + unsigned_abs z * r.error + r.size + r.error

unfoldable pub error_of_sum : List Rounded → List RowModel → ℕ → ℕ
error_of_sum pairs rows zero = 0
error_of_sum pairs rows (suc n) = added_error (pair_before pairs n).lo (row_before pairs rows n) (error_of_sum pairs rows n)

-- half of the coefficients of their sum, from one on
abbrev pub half : ℕ
half = HALF

abbrev pub AreNumbersOfSum : List Rounded → List RowModel → ℕ → ℕ → List ℤ → Type 0
AreNumbersOfSum pairs rows from n xs = (k : ℕ) → k < half → slice_index_or xs k (pos 0) ≡ number_of_sum pairs rows (from + k) n

-- the ends of each are at most 1 apart
abbrev pub AreNarrow : List Rounded → ℕ → Type 0
AreNarrow pairs n = (k : ℕ) → k < n → (pair_before pairs k).hi ≤ℤ ((pair_before pairs k).lo +ℤ pos 1)

pub record IsErrorOfSum (pairs : List Rounded) (rows : List RowModel) (n e : ℕ) : Type 0 where
  pub equals : e ≡ error_of_sum pairs rows n
  pub small : e ≤ n * 2 ^ 121
  pub narrow : AreNarrow pairs n
