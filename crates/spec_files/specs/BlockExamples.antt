-- Blocks of five numbers and one day, and what becomes of them where a line is changed.
use Rattle.std.specs.Prelude.{ℕ, suc, List, [], ◌∷◌, ◌++◌, codes, replicate, Result, Ok, Err, pos, negsuc}
use Rattle.spec_text.specs.Examples.{decimal}
use Rattle.spec_text.specs.Lines.{tokens}
use Rattle.spec_text.specs.declared.decimals.Decimal.{Decimal}
use Rattle.spec_ephemeris.specs.declared.header.Header.{Header}
use Rattle.spec_ephemeris.specs.Ephemeris.{Ephemeris}
use Rattle.spec_ephemeris.specs.Examples.{column, whole}
use Rattle.spec_files.specs.Sections.{FileLine, Stop, breaks}
use Rattle.spec_files.specs.Blocks.{blocks}

-- of the five numbers three are of Mercury
abbrev pub day_header : Header
day_header = record {
  ncoeff = 5;
  block_seconds = pos 86400;
  emrat = whole (pos 81);
  columns = column 3 1 1 ∷ replicate 12 (column 6 0 0);
}

-- of ten numbers three are of Mercury, two of nutations (column 12) and three of librations (column 13)
abbrev pub angles_header : Header
angles_header = record day_header {
  ncoeff = 10;
  columns = column 3 1 1 ∷ replicate 10 (column 6 0 0) ++ column 6 1 1 ∷ column 8 1 1 ∷ [];
}

abbrev pub line : ℕ → ℕ → List ℕ → FileLine
line file number text = record { file = file; number = number; words = tokens text }

-- the lines of a file, the first of which has this number
abbrev pub lines_from : ℕ → ℕ → List (List ℕ) → List FileLine
lines_from file number [] = []
lines_from file number (text ∷ texts) = line file number text ∷ lines_from file (suc number) texts

-- what lines of the first file come to
abbrev pub read : List (List ℕ) → Result Ephemeris Stop
read texts = blocks day_header (lines_from 0 1 texts)

-- what lines of two files come to, where those of the first begin at line 20
abbrev pub read_both : List (List ℕ) → List (List ℕ) → Result Ephemeris Stop
read_both texts others = blocks day_header (lines_from 0 20 texts ++ lines_from 1 1 others)

-- a block whose numbers stand on one line
abbrev pub on_one_line : List ℕ → List (List ℕ)
on_one_line numbers = codes "1 5" ∷ numbers ∷ []

-- a block that wants two numbers more
abbrev pub open_day : List (List ℕ)
open_day = on_one_line (codes "2451545 2451546 1.5")

-- a block of one day
abbrev pub first_day : List (List ℕ)
first_day = open_day ++ codes "-2 3 0.0" ∷ []

abbrev pub second_day : List (List ℕ)
second_day = codes "2 5" ∷ codes "2451546 2451547 4" ∷ codes "5 6 0.0" ∷ []

abbrev pub numbers_of_first_day : List Decimal
numbers_of_first_day =
    whole (pos 2451545) ∷ whole (pos 2451546) ∷ decimal (pos 15) (negsuc 0) ∷ whole (negsuc 1) ∷ whole (pos 3) ∷ []

abbrev pub numbers_of_second_day : List Decimal
numbers_of_second_day = whole (pos 2451546) ∷ whole (pos 2451547) ∷ whole (pos 4) ∷ whole (pos 5) ∷ whole (pos 6) ∷ []

-- so many days from J2000 on
abbrev pub days : ℕ → List Decimal → Ephemeris
days count numbers = record { header = day_header; start = pos 0; blocks = count; numbers = numbers }

abbrev pub one_day : Result Ephemeris Stop
one_day = Ok (days 1 numbers_of_first_day)

abbrev pub two_days : Result Ephemeris Stop
two_days = Ok (days 2 (numbers_of_first_day ++ numbers_of_second_day))

-- a day of Mercury, and angles of this size
abbrev pub day_of_angles : Decimal → Ephemeris
day_of_angles angle = record {
  header = angles_header;
  start = pos 0;
  blocks = 1;
  numbers =
      whole (pos 2451545) ∷ whole (pos 2451546) ∷ whole (pos 1) ∷ whole (pos 2) ∷ whole (pos 3) ∷ replicate 5 angle;
}

-- refused by the line of this number of the first file
abbrev pub refused : ℕ → ℕ → ℕ → Result Ephemeris Stop
refused line number detail = Err (breaks 0 (record { line = line; number = number; detail = detail }))
