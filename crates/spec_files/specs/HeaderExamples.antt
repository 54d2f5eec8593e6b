-- A header of a few lines, and what becomes of it where one line is changed.
use Rattle.std.specs.Prelude.{ℕ, ◌-◌, List, [], ◌∷◌, ◌++◌, codes, flat_map, replicate, set, ℤ, pos, Result, Ok, Err}
use Rattle.spec_text.specs.Bytes.{line_feed}
use Rattle.spec_text.specs.declared.decimals.Fault.{Fault}
use Rattle.spec_text.specs.Examples.{decimal}
use Rattle.spec_ephemeris.specs.Examples.{four_columns}
use Rattle.spec_ephemeris.specs.declared.header.Column.{Column}
use Rattle.spec_ephemeris.specs.declared.header.Header.{Header}
use Rattle.spec_files.specs.Sections.{FileLine}
use Rattle.spec_files.specs.HeaderLines.{text_header}

-- blocks of 26 numbers and 32 days, with the columns of Mercury, the barycentre, the Moon and the Sun
abbrev pub rows : List (List ℕ)
rows =
    codes "KSIZE= 52 NCOEFF= 26"
    ∷ codes "GROUP   1010"
    ∷ codes "TITLE"
    ∷ codes "GROUP 1030"
    ∷ codes "2451544.50 2451576.50 32."
    ∷ codes "GROUP 1040"
    ∷ codes "2"
    ∷ codes "EMRAT AU"
    ∷ codes "GROUP 1041"
    ∷ codes "2"
    ∷ codes "0.81D+02 x"
    ∷ codes "GROUP 1050"
    ∷ codes "3 9 9 15 15 15 15 15 15 15 21 27 27"
    ∷ codes "2 0 2 0 0 0 0 0 0 2 2 0 0"
    ∷ codes "1 0 1 0 0 0 0 0 0 1 1 0 0"
    ∷ codes "GROUP 1070"
    ∷ codes "1 26"
    ∷ []

abbrev pub text_of : List (List ℕ) → List ℕ
text_of [] = []
text_of (row ∷ rest) = row ++ line_feed ∷ text_of rest

-- what the text with another line in place of line n comes to
abbrev pub header_with : ℕ → List ℕ → Result (Header × List FileLine) Fault
header_with n row = text_header (text_of (set rows (n - 1) row))

-- blocks of 27 seconds, of which Mercury has two granules
abbrev pub half_seconds : List (List ℕ)
half_seconds =
    set (set (set rows 4 (codes "2451544.50 2451576.50 0.0003125")) 13 (codes "1 0 2 0 0 0 0 0 0 2 2 0 0"))
    14 (codes "2 0 1 0 0 0 0 0 0 1 1 0 0")

-- further columns: these texts stand at the ends of the three lines of columns
abbrev pub with_more : List ℕ → List ℕ → List ℕ → List (List ℕ)
with_more starts coefs granules =
    set (set (set rows 12 (codes "3 9 9 15 15 15 15 15 15 15 21 27 27" ++ starts)) 13 (codes "2 0 2 0 0 0 0 0 0 2 2 0 0" ++ coefs))
    14 (codes "1 0 1 0 0 0 0 0 0 1 1 0 0" ++ granules)

-- as many short words, each after a blank
abbrev pub short_words : ℕ → List ℕ
short_words count = flat_map (λ word. codes " " ++ word) (replicate count (codes "x"))

-- EMRAT and as many constants after it, where this text says how many there are in all; their values are no numbers
abbrev pub with_constants : List ℕ → ℕ → List (List ℕ)
with_constants text count =
    set (set (set (set rows 6 text) 7 (codes "EMRAT" ++ short_words count)) 9 text) 10 (codes "81" ++ short_words count)

-- Mercury has as many coefficients, and no other body any, in blocks of 98 numbers
abbrev pub with_coefficients : List ℕ → List (List ℕ)
with_coefficients count =
    set (set (set (set rows 0 (codes "KSIZE= 196 NCOEFF= 98")) 12 (codes "3 3 3 3 3 3 3 3 3 3 3 3 3")) 13 (count ++ codes " 0 0 0 0 0 0 0 0 0 0 0 0"))
    14 (codes "1 0 0 0 0 0 0 0 0 0 0 0 0")

abbrev pub small_header : Header
small_header = record four_columns { emrat = decimal (pos 81) (pos 0) }

-- this header, and after it the line of this number
abbrev pub read_as : Header → ℕ → Result (Header × List FileLine) Fault
read_as header number = Ok (header, record { file = 0; number = number; words = codes "1" ∷ codes "26" ∷ [] } ∷ [])

abbrev pub read_before : ℕ → Result (Header × List FileLine) Fault
read_before = read_as small_header

-- a header of blocks of another length, with further columns, and after it the line of this number
abbrev pub read_with : ℤ → List Column → ℕ → Result (Header × List FileLine) Fault
read_with length more = read_as (record small_header { block_seconds = length; columns = small_header.columns ++ more })

-- the same header with blocks of as many numbers
abbrev pub of_numbers : ℕ → Header
of_numbers ncoeff = record small_header { ncoeff = ncoeff }

-- and with another ratio of masses
abbrev pub of_ratio : ℤ → Header
of_ratio ratio = record small_header { emrat = decimal ratio (pos 0) }

abbrev pub refused : ℕ → ℕ → ℕ → Result (Header × List FileLine) Fault
refused line number detail = Err (record { line = line; number = number; detail = detail })
