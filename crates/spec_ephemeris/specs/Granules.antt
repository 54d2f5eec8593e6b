-- The granule of a column at a time, as a function, the series of an axis of it, and a granule that is read.
use Rattle.std.specs.Prelude.{ℕ, ◌-◌, ◌*◌, ◌/◌, ◌%◌, ◌<◌, min, IsTrue, Option, None, Some, ℤ, pos, unsigned_abs, ◌+ℤ◌, ◌-ℤ◌, ◌≤ℤ◌}
use Rattle.spec_ephemeris.specs.declared.header.Column.{Column}
use Rattle.spec_ephemeris.specs.declared.granule.Granule.{Granule as ReadGranule}
use Rattle.spec_ephemeris.specs.Header.{column_at, has_column}
use Rattle.spec_ephemeris.specs.Series.{Series, to_nat}
use Rattle.spec_ephemeris.specs.Ephemeris.{Ephemeris, IsEphemeris, Granule, granule_numbers, block_numbers, axis_series, end_of}

-- a column by its number, where it is there
abbrev pub column_or_none : Option Column → Column
column_or_none None = record { start = 0; coefs = 0; granules = 0 }
column_or_none (Some c) = c

abbrev pub column_of : Ephemeris → ℕ → Column
column_of e number = column_or_none (column_at e.header.columns number)

-- the granules of a block share its time
abbrev pub granule_length : Ephemeris → Column → ℕ
granule_length e c = to_nat e.header.block_seconds / c.granules

-- the granule that begins at a time or is the last to begin before it, counted from 0 over all blocks; the time at which
-- the last ends belongs to the last
abbrev pub granule_index : Ephemeris → Column → ℤ → ℕ
granule_index e c t = min (to_nat (t -ℤ e.start) / granule_length e c) (e.blocks * c.granules - 1)

abbrev pub granule_of_index : Ephemeris → ℕ → Column → ℕ → Granule
granule_of_index e number c index = record {
  start = e.start +ℤ pos (index * granule_length e c);
  duration = granule_length e c;
  coefs = granule_numbers number c (index % c.granules) (block_numbers e (index / c.granules));
}

abbrev pub granule_at : Ephemeris → ℕ → ℤ → Granule
granule_at e number t = granule_of_index e number (column_of e number) (granule_index e (column_of e number) t)

-- the series of an axis, counted from 0, at a time
abbrev pub series_at : Ephemeris → ℕ → ℕ → ℤ → Series
series_at e number axis t = axis_series (granule_at e number t) (column_of e number).coefs axis

-- the column is there, and its blocks are there at this time
pub record HasTime (e : Ephemeris) (number : ℕ) (t : ℤ) : Type 0 where
  pub checked : IsEphemeris e
  pub column : IsTrue (has_column e.header number)
  pub some : 0 < e.blocks
  pub from : e.start ≤ℤ t
  pub upto : t ≤ℤ end_of e

-- ---- a granule that is read
abbrev pub granule_of : ReadGranule → Granule
granule_of g = record { start = g.start; duration = unsigned_abs g.seconds; coefs = g.coefs.now }

-- the coefficients of one axis, counted from 0, over the time of the granule
abbrev pub series_of : ReadGranule → ℕ → Series
series_of g axis = axis_series (granule_of g) g.n axis
