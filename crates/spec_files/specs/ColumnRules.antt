-- The rules of the columns of a header, which stand in three lines: starts, coefficients and granules.
use Rattle.std.specs.Prelude.{ℕ, suc, ◌+◌, ◌%◌, ◌==◌, ◌&&◌, ◌||◌, nat_le, nat_lt, Bool, false, List, [], ◌∷◌, ◌++◌, length, Option, None, Some, Result, Ok, Err, if◌then◌else◌}
use Rattle.spec_text.specs.Reading.{whole_of}
use Rattle.spec_ephemeris.specs.declared.header.Column.{Column}
use Rattle.spec_ephemeris.specs.declared.limits.TheConstants.{READ_COLUMNS, MAX_COLUMNS, FIRST_PLACE, MAX_COEFFICIENTS}
use Rattle.spec_ephemeris.specs.Header.{column_size, is_present}
use Rattle.spec_files.specs.declared.rules.BrokenRule.{BrokenRule}
use Rattle.spec_faults.specs.declared.numbers.TheConstants.{COLUMN_COUNT, COLUMN_PLACE, COEFFICIENT_COUNT, GRANULE_NOT_WHOLE, HEADER_NUMBER}
use Rattle.spec_files.specs.Sections.{broken, ◌>>=◌}

abbrev pub whole_number : Option ℕ → Result ℕ BrokenRule
whole_number None = Err (broken HEADER_NUMBER 1)
whole_number (Some n) = Ok n

-- these numbers, and the words after them as whole numbers
abbrev pub whole_numbers : List ℕ → List (List ℕ) → Result (List ℕ) BrokenRule
whole_numbers before [] = Ok before
whole_numbers before (word ∷ words) = whole_number (whole_of word) >>= λ n. whole_numbers (before ++ n ∷ []) words

abbrev pub is_column_count : ℕ → Bool
is_column_count count = nat_le READ_COLUMNS count && nat_le count MAX_COLUMNS

-- the first line, which says how many columns there are; its words are looked at only where their count is right
abbrev pub first_row : List (List ℕ) → Result (List ℕ) BrokenRule
first_row words = if is_column_count (length words) then whole_numbers [] words else Err (broken COLUMN_COUNT 0)

-- a later line of one whole number for each of so many columns; its words too are looked at only where their count is right
abbrev pub row_of : ℕ → List (List ℕ) → Result (List ℕ) BrokenRule
row_of count words = if length words == count then whole_numbers [] words else Err (broken COLUMN_COUNT 0)

abbrev pub columns_of : List ℕ → List ℕ → List ℕ → List Column
columns_of (start ∷ starts) (coefs ∷ more) (granules ∷ rest) = record { start = start; coefs = coefs; granules = granules } ∷ columns_of starts more rest
columns_of starts coefs granules = []

-- whether two columns, given by their numbers, have a place in common
abbrev pub overlap : ℕ → Column → ℕ → Column → Bool
overlap i c j d = nat_lt c.start (d.start + column_size j d) && nat_lt d.start (c.start + column_size i c)

-- whether a present column of the list, whose first one has the number j, has a place of column i
abbrev pub overlaps_any : ℕ → Column → ℕ → List Column → Bool
overlaps_any i c j [] = false
overlaps_any i c j (d ∷ ds) = (is_present d && overlap i c j d) || overlaps_any i c (suc j) ds

-- whether the places of column i are those of a block and of no earlier column
abbrev pub is_out_of_place : ℕ → List Column → ℕ → Column → Bool
is_out_of_place ncoeff earlier i c =
    nat_lt c.start FIRST_PLACE || (nat_lt (ncoeff + 1) (c.start + column_size i c) || overlaps_any i c 1 earlier)

-- a present column after the earlier ones, in a block of so many numbers and seconds
abbrev pub present_column : ℕ → ℕ → List Column → ℕ → Column → Result (Unit {0}) BrokenRule
present_column ncoeff seconds earlier i c =
    if nat_lt MAX_COEFFICIENTS c.coefs then Err (broken COEFFICIENT_COUNT 0)
    else if is_out_of_place ncoeff earlier i c then Err (broken COLUMN_PLACE 0)
    else if seconds % c.granules == 0 then Ok tt
    else Err (broken GRANULE_NOT_WHOLE 0)

-- an absent column has no rule, and neither has one past those that are read
abbrev pub column_rule : ℕ → ℕ → List Column → Column → Result (Unit {0}) BrokenRule
column_rule ncoeff seconds earlier c =
    if nat_lt (length earlier) READ_COLUMNS && is_present c then present_column ncoeff seconds earlier (length earlier + 1) c else Ok tt

-- all columns, of which the earlier ones meet the rules
abbrev pub columns_rule : ℕ → ℕ → List Column → List Column → Result (List Column) BrokenRule
columns_rule ncoeff seconds earlier [] = Ok earlier
columns_rule ncoeff seconds earlier (c ∷ cs) = column_rule ncoeff seconds earlier c >>= λ _. columns_rule ncoeff seconds (earlier ++ c ∷ []) cs

-- the third line, after the first two, and the columns of the three lines
abbrev pub columns_row : ℕ → ℕ → List ℕ → List ℕ → List (List ℕ) → Result (List Column) BrokenRule
columns_row ncoeff seconds starts coefs words = row_of (length starts) words >>= λ granules. columns_rule ncoeff seconds [] (columns_of starts coefs granules)
