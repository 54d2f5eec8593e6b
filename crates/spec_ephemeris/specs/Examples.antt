-- Small series with round values.
use Rattle.std.specs.Prelude.{◌≡◌, ℕ, List, replicate, [], ◌∷◌, ◌++◌, ℤ, pos, neg_ℤ, ◌*ℤ◌}
use Rattle.spec_text.specs.declared.decimals.Decimal.{Decimal}
use Rattle.spec_intervals.specs.Fraction.{Fraction}
use Rattle.spec_ephemeris.specs.declared.granule.Rounded.{Rounded}
use Rattle.spec_ephemeris.specs.declared.header.Column.{Column}
use Rattle.spec_ephemeris.specs.declared.header.Header.{Header}
use Rattle.spec_ephemeris.specs.Series.{Series}
use Rattle.spec_ephemeris.specs.Ephemeris.{Ephemeris}

abbrev pub whole : ℤ → Decimal
whole m = record { mant = m; exp = pos 0 }

-- a number of units of 10^-12
abbrev pub tiny : ℤ → Decimal
tiny m = record { mant = m; exp = neg_ℤ (pos 12) }

abbrev pub pair : ℤ → ℤ → Rounded
pair lo hi = record { lo = lo; hi = hi }

-- a fraction is this whole number
abbrev pub IsWhole : Fraction → ℤ → Type 0
IsWhole r n = r.numerator ≡ n *ℤ pos r.denominator

-- x over 32 days where it grows by 1 km each second, from 0.138240000000000000D+07 km below 0 to as much above 0
abbrev pub growing_x : Series
growing_x = record {
  start = neg_ℤ (pos 43200);
  duration = 2764800;
  coefficients = whole (pos 0) ∷ record { mant = pos 138240000000000000; exp = neg_ℤ (pos 11) } ∷ [];
}

-- T_0 + 2 T_1 + 3 T_2 over ten seconds
abbrev pub parabola : Series
parabola = record { start = pos 100; duration = 10; coefficients = whole (pos 1) ∷ whole (pos 2) ∷ whole (pos 3) ∷ [] }

-- a column of this start, this many coefficients and granules
abbrev pub column : ℕ → ℕ → ℕ → Column
column start coefs granules = record { start = start; coefs = coefs; granules = granules }

-- Mercury, the Earth-Moon barycentre, the Moon and the Sun, each with two coefficients and one granule
abbrev pub four_columns : Header
four_columns = record {
  ncoeff = 26;
  block_seconds = pos 2764800;
  emrat = record { mant = pos 810000000000000000; exp = neg_ℤ (pos 16) };
  columns =
      column 3 2 1 ∷ column 9 0 0 ∷ column 9 2 1 ∷ column 15 0 0 ∷ column 15 0 0 ∷ column 15 0 0 ∷ column 15 0 0
      ∷ column 15 0 0 ∷ column 15 0 0 ∷ column 15 2 1 ∷ column 21 2 1 ∷ column 27 0 0 ∷ column 27 0 0 ∷ [];
}

-- the header of JPL's DE405
abbrev pub de405 : Header
de405 = record {
  ncoeff = 1018;
  block_seconds = pos 2764800;
  emrat = record { mant = pos 813005600000000000; exp = neg_ℤ (pos 16) };
  columns =
      column 3 14 4 ∷ column 171 10 2 ∷ column 231 13 2 ∷ column 309 11 1 ∷ column 342 8 1 ∷ column 366 7 1 ∷ column 387 6 1
      ∷ column 405 6 1 ∷ column 423 6 1 ∷ column 441 13 8 ∷ column 753 11 2 ∷ column 819 10 4 ∷ column 899 10 4 ∷ [];
}

-- that header with blocks of another length
abbrev pub de405_of_length : ℤ → Header
de405_of_length length = record { ncoeff = de405.ncoeff; block_seconds = length; emrat = de405.emrat; columns = de405.columns }

-- that header with columns after its own
abbrev pub de405_with : List Column → Header
de405_with more = record { ncoeff = de405.ncoeff; block_seconds = de405.block_seconds; emrat = de405.emrat; columns = de405.columns ++ more }

-- the header of JPL's DE430t, whose column 15 has one component
abbrev pub de430t : Header
de430t = record {
  ncoeff = 982;
  block_seconds = pos 2764800;
  emrat = record { mant = pos 813005690699153000; exp = neg_ℤ (pos 16) };
  columns =
      column 3 14 4 ∷ column 171 10 2 ∷ column 231 13 2 ∷ column 309 11 1 ∷ column 342 8 1 ∷ column 366 7 1 ∷ column 387 6 1
      ∷ column 405 6 1 ∷ column 423 6 1 ∷ column 441 13 8 ∷ column 753 11 2 ∷ column 819 0 0 ∷ column 819 10 4 ∷ column 939 0 0
      ∷ column 939 11 4 ∷ [];
}

-- blocks of a header, with no numbers written
abbrev pub blocks_of : Header → ℕ → Ephemeris
blocks_of h blocks = record { header = h; start = neg_ℤ (pos 43200); blocks = blocks; numbers = [] }

abbrev pub blocks_of_de405 : ℕ → Ephemeris
blocks_of_de405 = blocks_of de405

-- blocks of this many numbers, in which Mercury alone may have a column
abbrev pub one_column : ℕ → Column → Header
one_column ncoeff mercury =
    record { ncoeff = ncoeff; block_seconds = pos 2764800; emrat = whole (pos 81); columns = mercury ∷ replicate 12 (column 3 0 0) }

-- a column of two coefficients that begins within Mercury's
abbrev pub overlapping : Header
overlapping = record {
  ncoeff = 26;
  block_seconds = pos 2764800;
  emrat = whole (pos 81);
  columns =
      column 3 2 1 ∷ column 8 2 1 ∷ column 15 0 0 ∷ column 15 0 0 ∷ column 15 0 0 ∷ column 15 0 0 ∷ column 15 0 0
      ∷ column 15 0 0 ∷ column 15 0 0 ∷ column 15 0 0 ∷ column 15 0 0 ∷ column 15 0 0 ∷ column 15 0 0 ∷ [];
}

-- blocks of that header, with these numbers
abbrev pub of_four_columns : ℕ → List Decimal → Ephemeris
of_four_columns blocks numbers = record { header = four_columns; start = neg_ℤ (pos 43200); blocks = blocks; numbers = numbers }
