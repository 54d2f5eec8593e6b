-- The coefficients of generated blocks.
use Rattle.std.specs.Prelude.{◌≡◌, ℕ, zero, suc, ◌+◌, ◌-◌, ◌*◌, ◌%◌, ◌^◌, ◌<◌, List, [], ◌∷◌, map, slice_get, Option, None, Some, ℤ, pos, ◌-ℤ◌, ◌*ℤ◌, int_div, if◌then◌else◌}
use Rattle.spec_ephemeris.specs.declared.header.Column.{Column}
use Rattle.spec_ephemeris.specs.Header.{components, granule_size}
use Rattle.spec_files.specs.BlockRules.{is_place}
use Rattle.spec_generated.specs.declared.columns.CoefficientShape.{CoefficientShape}
use Rattle.spec_generated.specs.declared.columns.TheConstants.{COLUMNS}

-- a column, and the scale of its coefficients
pub record ScaledColumn : Type 0 where
  pub column : Column
  pub scale : ℕ

-- rows of the table as code reads them
abbrev pub columns_of : List (ℕ × ℕ × ℕ × ℕ) → List ScaledColumn
columns_of rows = map (λ row. record { column = record { start = row.0; coefs = row.1; granules = row.2 }; scale = row.3 }) rows

-- the table
abbrev pub scaled_columns : List ScaledColumn
scaled_columns = columns_of COLUMNS

-- the term of a place: its column is that of these, the first of which has this number, to which the place belongs; each
-- component of each granule takes as many places as it has coefficients, from T_0 on
abbrev pub term_among : ℕ → List ScaledColumn → ℕ → CoefficientShape
term_among number [] place = record { scale = 0; degree = 0 }
term_among number (c ∷ cs) place =
    if is_place number c.column place then record { scale = c.scale; degree = (place - c.column.start) % c.column.coefs }
    else term_among (suc number) cs place

-- the term of a place of a block, counted from 1
unfoldable pub term_at : ℕ → CoefficientShape
term_at place = term_among 1 scaled_columns place

-- columns are counted from 1
abbrev pub scaled_at : ℕ → Option ScaledColumn
scaled_at zero = None
scaled_at (suc number) = slice_get scaled_columns number

-- the place of the coefficient of T_k of an axis of a granule of a column; axes and granules are counted from 0
abbrev pub place_of : ℕ → Column → ℕ → ℕ → ℕ → ℕ
place_of number c granule axis k = c.start + granule * granule_size number c + axis * c.coefs + k

-- a coefficient of a column that the table has
pub record IsTermAt (number : ℕ) (c : ScaledColumn) (granule axis k : ℕ) : Type 0 where
  pub listed : scaled_at number ≡ Some c
  pub granules : granule < c.column.granules
  pub axes : axis < components number
  pub degrees : k < c.column.coefs

-- the coefficient of a term for what was drawn, in millionths of a km: a number from -2^31 on, below 2^31, times the scale,
-- over 4 for each degree, rounded towards zero
abbrev pub millionths : CoefficientShape → ℕ → ℤ
millionths term draw = int_div ((pos draw -ℤ pos (2 ^ 31)) *ℤ pos term.scale) (pos (4 ^ term.degree))
