-- What is printed of an ephemeris: its span and sizes, and a line for each column that it has.
use Rattle.std.specs.Prelude.{ℕ, ◌+◌, ◌-◌, ◌==◌, List, [], ◌∷◌, ◌++◌, codes, Option, None, Some, slice_get, if◌then◌else◌}
use Rattle.std.specs.Fmt.{decimal, signed_decimal}
use Rattle.spec_ephemeris.specs.declared.body.Body.{Body}
use Rattle.spec_ephemeris.specs.declared.header.Column.{Column}
use Rattle.spec_ephemeris.specs.declared.limits.TheConstants.{MAX_COLUMNS, NUTATIONS, READ_COLUMNS}
use Rattle.spec_ephemeris.specs.Ephemeris.{Ephemeris, end_of}
use Rattle.spec_ephemeris.specs.Header.{is_present}
use Rattle.spec_requests.specs.Names.{body_name}
use Rattle.spec_times.specs.Calendar.{time_text}
use Rattle.spec_output.specs.declared.columns.TheConstants.{COLUMN_BODIES}

abbrev pub span_of : Ephemeris → List ℕ
span_of e = codes "CHECK start " ++ time_text e.start ++ (codes " end " ++ time_text (end_of e))

abbrev pub sizes_of : Ephemeris → List ℕ
sizes_of e =
    codes " block " ++ signed_decimal e.header.block_seconds ++ (codes " blocks " ++ decimal e.blocks)
    ++ (codes " ncoeff " ++ decimal e.header.ncoeff ++ codes "\n")

abbrev pub ephemeris_line : Ephemeris → List ℕ
ephemeris_line e = span_of e ++ sizes_of e

-- a column without a body holds angles, or is not read
abbrev pub name_of_column : Option Body → ℕ → List ℕ
name_of_column (Some body) number = body_name body
name_of_column None number =
    if number == NUTATIONS then codes "nutations"
    else if number == READ_COLUMNS then codes "librations"
    else if number == MAX_COLUMNS then codes "column15"
    else codes "column14"

-- columns are counted from 1
abbrev pub column_name : ℕ → List ℕ
column_name number = name_of_column (slice_get COLUMN_BODIES (number - 1)) number

abbrev pub column_line : ℕ → Column → List ℕ
column_line number c =
    codes "COLUMN " ++ column_name number ++ (codes " coefficients " ++ decimal c.coefs)
    ++ (codes " granules " ++ decimal c.granules ++ codes "\n")

-- only a column that is present has a line
abbrev pub line_if_present : ℕ → Column → List ℕ
line_if_present number c = if is_present c then column_line number c else []

-- the lines of columns, the first of which has this number
abbrev pub column_lines : ℕ → List Column → List ℕ
column_lines number [] = []
column_lines number (c ∷ columns) = line_if_present number c ++ column_lines (number + 1) columns

abbrev pub summary : Ephemeris → List ℕ
summary e = ephemeris_line e ++ column_lines 1 e.header.columns
