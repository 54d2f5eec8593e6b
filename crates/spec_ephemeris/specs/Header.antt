-- What a header must be: the rules on its numbers, and on the places of a block that its columns take.
use Rattle.std.specs.Prelude.{◌≡◌, ℕ, zero, suc, ◌+◌, ◌*◌, ◌^◌, ◌<◌, ◌≤◌, ◌==◌, nat_lt, Bool, false, ◌&&◌, IsTrue, List, length, slice_get, Option, None, Some, if◌then◌else◌, ℤ, pos, ◌*ℤ◌, ◌≤ℤ◌}
use borrow.Author.Differences.{up, down}
use Rattle.spec_text.specs.declared.decimals.Decimal.{Decimal}
use Rattle.spec_ephemeris.specs.declared.header.Column.{Column}
use Rattle.spec_ephemeris.specs.declared.header.Header.{Header}
use Rattle.spec_ephemeris.specs.declared.limits.TheConstants.{READ_COLUMNS, MAX_COLUMNS, NUTATIONS, FIRST_PLACE, MIN_NUMBERS, MAX_NUMBERS, MAX_COEFFICIENTS, SHORTEST_BLOCK, LONGEST_TICKS, MIN_MASS_RATIO, GREATEST_MASS_RATIO}

-- columns are counted from 1; those past the ones that are read are none
abbrev pub column_at : List Column → ℕ → Option Column
column_at columns zero = None
column_at columns (suc number) = if nat_lt number READ_COLUMNS then slice_get columns number else None

-- a column with no coefficients or no granules is absent
abbrev pub is_present : Column → Bool
is_present c = nat_lt 0 c.coefs && nat_lt 0 c.granules

abbrev pub is_present_at : Option Column → Bool
is_present_at None = false
is_present_at (Some c) = is_present c

-- whether the header has the column
abbrev pub has_column : Header → ℕ → Bool
has_column h number = is_present_at (column_at h.columns number)

-- the column of this number is c, and is present
pub record IsColumn (h : Header) (number : ℕ) (c : Column) : Type 0 where
  pub listed : column_at h.columns number ≡ Some c
  pub present : IsTrue (is_present c)

-- nutations have two components; every other column has three
abbrev pub components : ℕ → ℕ
components number = if number == NUTATIONS then 2 else 3

-- the numbers of one granule of a column, and of all its granules in a block
abbrev pub granule_size : ℕ → Column → ℕ
granule_size number c = components number * c.coefs

abbrev pub column_size : ℕ → Column → ℕ
column_size number c = granule_size number c * c.granules

-- the places of a block, counted from 1, that a column takes: from its start on
pub record Takes (number : ℕ) (c : Column) (place : ℕ) : Type 0 where
  pub from : c.start ≤ place
  pub before : place < c.start + column_size number c

-- a block is a whole number of seconds, or of ticks, for each of the granules
pub record IsShared (block : ℤ) (granules : ℕ) : Type 0 where
  pub seconds : ℕ
  pub whole : block ≡ pos (seconds * granules)

-- the rules of a present column by itself; the last of its places is within the block
pub record MeetsColumnRules (h : Header) (number : ℕ) (c : Column) : Type 0 where
  pub coefficients : c.coefs ≤ MAX_COEFFICIENTS
  pub start : FIRST_PLACE ≤ c.start
  pub last : c.start + column_size number c ≤ h.ncoeff + 1
  pub granules : IsShared h.block_seconds c.granules

-- no place belongs to both columns
abbrev pub AreApart : ℕ → Column → ℕ → Column → Type 0
AreApart i c j d = (place : ℕ) → Takes i c place → Takes j d place → ⊥

-- EMRAT is from 1 to 1,000
pub record IsMassRatio (d : Decimal) : Type 0 where
  pub least : pos (MIN_MASS_RATIO * 10 ^ down d.exp) ≤ℤ (d.mant *ℤ pos (10 ^ up d.exp))
  pub greatest : (d.mant *ℤ pos (10 ^ up d.exp)) ≤ℤ pos (GREATEST_MASS_RATIO * 10 ^ down d.exp)

-- the columns of a header, with those that are not read
abbrev pub IsColumnCount : ℕ → Type 0
IsColumnCount count = (READ_COLUMNS ≤ count) × (count ≤ MAX_COLUMNS)

-- the header meets the rules; its block length is counted in seconds or in ticks
pub record IsHeader (h : Header) : Type 0 where
  pub fewest : MIN_NUMBERS ≤ h.ncoeff
  pub most : h.ncoeff ≤ MAX_NUMBERS
  pub shortest : SHORTEST_BLOCK ≤ℤ h.block_seconds
  pub longest : h.block_seconds ≤ℤ LONGEST_TICKS
  pub ratio : IsMassRatio h.emrat
  pub count : IsColumnCount (length h.columns)
  pub columns : (number : ℕ) (c : Column) → IsColumn h number c → MeetsColumnRules h number c
  pub apart : (i j : ℕ) (c d : Column) → i < j → IsColumn h i c → IsColumn h j d → AreApart i c j d
