-- What is asked of the columns that a formula names, so that it can be enclosed.
use Rattle.std.specs.Prelude.{◌≡◌, false, unsigned_abs, ℕ, ◌+◌, ◌*◌, ◌<◌, ◌≤◌, max, ⊤, IsTrue, Contains}
use Rattle.spec_intervals.specs.Interval.{Interval, end_limit, cosine_exponent, is_zero}
use Rattle.spec_chebyshev.specs.Rows.{t_unit}
use Rattle.spec_motions.specs.Enclosures.{sum_exponent}
use Rattle.spec_ephemeris.specs.declared.limits.TheConstants.{BODY_COLUMNS}
use Rattle.spec_ephemeris.specs.Header.{has_column}
use Rattle.spec_bodies.specs.Meanings.{factor_unit}
use Rattle.spec_bodies.specs.Coordinates.{Coordinate, nothing, of_column, times, plus, less}
use Rattle.spec_bodies.specs.Views.{View, columns_of}

-- what is true of each coordinate of a column that the formula names
abbrev pub AllColumns : (ℕ → ℕ → Type 0) → Coordinate → Type 0
AllColumns P nothing = ⊤
AllColumns P (of_column number axis) = P number axis
AllColumns P (times f x) = AllColumns P x
AllColumns P (plus x y) = AllColumns P x × AllColumns P y
AllColumns P (less x y) = AllColumns P x × AllColumns P y

-- a column that is there, is a body's and is in use
pub record IsUsable (v : View) (number : ℕ) : Type 0 where
  pub there : IsTrue (has_column v.ephemeris.header number)
  pub of_body : number ≤ BODY_COLUMNS
  pub in_use : Contains (columns_of v) number

-- one of its coordinates
pub record IsReadable (v : View) (number axis : ℕ) : Type 0 where
  pub usable : IsUsable v number
  pub along : axis < 3

-- how far down exponents go: to that of a column's sum with the row of T, which has the finest unit, before it is
-- normalized; each factor lowers them by its unit
abbrev pub column_lowest : ℕ
column_lowest = unsigned_abs (sum_exponent t_unit)

-- how far up: to 2 after a column's sum is normalized. A product of two ends below 2^62 rises by 62 at most, which is 2 more
-- than the unit of a factor takes; a sum rises by 1
abbrev pub column_highest : ℕ
column_highest = 2

abbrev pub factor_rise : ℕ
factor_rise = 2

abbrev pub lowest : Coordinate → ℕ
lowest nothing = 0
lowest (of_column number axis) = column_lowest
lowest (times f x) = lowest x + factor_unit
lowest (plus x y) = max (lowest x) (lowest y)
lowest (less x y) = max (lowest x) (lowest y)

abbrev pub highest : Coordinate → ℕ
highest nothing = 0
highest (of_column number axis) = column_highest
highest (times f x) = highest x + factor_rise
highest (plus x y) = max (highest x) (highest y) + 1
highest (less x y) = max (highest x) (highest y) + 1

-- not too many factors and sums one within the other
pub record IsLow (l h : ℕ) (c : Coordinate) : Type 0 where
  pub low : lowest c ≤ l
  pub high : highest c ≤ h

-- as every coordinate of a body in a frame is: two factors and four sums, one within the other
abbrev pub IsShort : Coordinate → Type 0
IsShort = IsLow (column_lowest + 2 * factor_unit) (column_highest + 2 * factor_rise + 4)

-- an interval that is not 0, with small ends, at the exponent of factors
pub record IsFactor (c : Interval) : Type 0 where
  pub exponent : c.s ≡ cosine_exponent
  pub lo_small : unsigned_abs c.lo ≤ end_limit
  pub hi_small : unsigned_abs c.hi ≤ end_limit
  pub some : is_zero c ≡ false
