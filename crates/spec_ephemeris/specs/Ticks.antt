-- The same ephemeris with its times counted in ticks, so many to a second.
use Rattle.std.specs.Prelude.{◌≡◌, ℕ, ◌*◌, ◌≤◌, pos, ◌*ℤ◌, ◌≤ℤ◌}
use Rattle.spec_ephemeris.specs.declared.header.Header.{Header}
use Rattle.spec_ephemeris.specs.declared.limits.TheConstants.{FIRST_TIME, LAST_TIME, LONGEST_BLOCK, MAX_TICK}
use Rattle.spec_intervals.specs.Fraction.{Fraction}
use Rattle.spec_ephemeris.specs.Ephemeris.{Ephemeris, end_of}
use Rattle.spec_ephemeris.specs.Series.{Series}

abbrev pub header_in_ticks : ℕ → Header → Header
header_in_ticks tick h =
    record { ncoeff = h.ncoeff; block_seconds = h.block_seconds *ℤ pos tick; emrat = h.emrat; columns = h.columns }

-- its start and the length of its blocks are multiplied, and nothing else changes
abbrev pub in_ticks : ℕ → Ephemeris → Ephemeris
in_ticks tick e =
    record { header = header_in_ticks tick e.header; start = e.start *ℤ pos tick; blocks = e.blocks; numbers = e.numbers }

-- its times are counted in seconds, from Julian date 0 to Julian date 5,000,000
pub record IsInSeconds (e : Ephemeris) : Type 0 where
  pub longest : e.header.block_seconds ≤ℤ LONGEST_BLOCK
  pub first : FIRST_TIME ≤ℤ e.start
  pub last : e.start ≤ℤ LAST_TIME
  pub end : end_of e ≤ℤ LAST_TIME

-- the ticks of a second: one, or as many as 1,000
pub record IsTick (tick : ℕ) : Type 0 where
  pub some : 1 ≤ tick
  pub few : tick ≤ MAX_TICK

-- a series over the same span of time
abbrev pub series_in_ticks : ℕ → Series → Series
series_in_ticks tick s = record { start = s.start *ℤ pos tick; duration = s.duration * tick; coefficients = s.coefficients }

-- two fractions are one number
abbrev pub IsSame : Fraction → Fraction → Type 0
IsSame r t = r.numerator *ℤ pos t.denominator ≡ t.numerator *ℤ pos r.denominator
