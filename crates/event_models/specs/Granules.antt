-- The lines of the granules of columns over some times, the rows that serve them, and the models of sums with these.
use Rattle.std.specs.Prelude.{◌≡◌, ℕ, ◌^◌, ◌≤◌, ℤ, pos, ◌+ℤ◌, ◌-ℤ◌, ◌*ℤ◌, ◌≤ℤ◌, unsigned_abs, All, Option, IfSome, take}
use Rattle.spec_numbers.specs.Numbers.{floor_div}
use Rattle.spec_chebyshev.specs.Differences.{IsArgument}
use Rattle.spec_ephemeris.specs.declared.granule.Granule.{Granule}
use Rattle.spec_ephemeris.specs.Series.{Series}
use Rattle.spec_ephemeris.specs.Granules.{series_of}
use Rattle.spec_motions.specs.Granules.{IsEvaluable}
use Rattle.spec_bodies.specs.declared.quantity.Quantity.{Quantity}
use Rattle.spec_bodies.specs.declared.quantity.Quantity.TheVariants.{Position, Velocity}
use Rattle.spec_bodies.specs.Views.{value_interval}
use Rattle.spec_models.specs.Models.{Covers, Model}
use Rattle.spec_covers.specs.Series.{value_sum}
use Rattle.event_models.specs.declared.rows.Line.{Line}
use Rattle.event_models.specs.declared.granule_row.GranuleRow.{GranuleRow}
use Rattle.event_models.specs.declared.row_room.RowRoom.{RowRoom}
use Rattle.event_models.specs.declared.rooms.RowRooms.{RowRooms}
use Rattle.event_models.specs.Covered.{IsIfMade, argument}

-- the times lie within a granule of three axes
pub record IsGranuleOver (c d : ℤ) (g : Granule) : Type 0 where
  pub evaluable : IsEvaluable g
  pub axes : g.comps ≡ 3
  pub from : g.start ≤ℤ c
  pub upto : d ≤ℤ (g.start +ℤ g.seconds)

-- ---- the argument of a granule over times from c to d
abbrev pub line_over : ℤ → ℤ → ℤ → ℕ → Line
line_over c d start duration = record {
  middle = floor_div ((c +ℤ d -ℤ pos 2 *ℤ start -ℤ pos duration) *ℤ pos (2 ^ 60)) duration;
  slope = floor_div ((d -ℤ c) *ℤ pos (2 ^ 60)) duration;
}

-- ---- the first coefficient that the row of a quantity serves
abbrev pub first_place : Quantity → ℕ
first_place Position = 0
first_place Velocity = 1

-- ---- a row of a quantity over a line, with at least so many entries
pub record IsRowOf (quantity : Quantity) (l : Line) (n : ℕ) (r : RowRoom) : Type 0 where
  pub same : r.quantity ≡ quantity
  pub line : r.line ≡ l
  pub few : n ≤ r.entries

-- it serves a granule over times from c to d
abbrev pub IsServed : Quantity → ℤ → ℤ → Granule → RowRoom → Type 0
IsServed quantity c d g r = IsRowOf quantity (line_over c d g.start (unsigned_abs g.seconds)) g.n r

-- ---- a granule with the same start and length
pub record IsOfGranule (g : Granule) (r : GranuleRow) : Type 0 where
  pub start : g.start ≡ r.start
  pub seconds : g.seconds ≡ r.seconds

-- its line is that over times from c to d
abbrev pub HasLine : ℤ → ℤ → GranuleRow → Type 0
HasLine c d r = r.line ≡ line_over c d r.start (unsigned_abs r.seconds)

-- those up to the count have theirs; what stands behind them is not read
pub record AreLines (c d : ℤ) (r : RowRooms) : Type 0 where
  pub few : r.count ≤ 4
  pub lines : All (HasLine c d) (take r.count r.granules)

-- ---- a model of the sum of a series at each time, and of its value
abbrev pub IsSumModel : Quantity → ℤ → ℤ → Series → Model → Type 0
IsSumModel quantity c d s m = (t : ℤ) → c ≤ℤ t → t ≤ℤ d → Covers m (argument c d t) (d -ℤ c) (value_sum quantity s t)

-- of an axis of a granule, if one is made
abbrev pub AreAxisSums : Quantity → ℤ → ℤ → Granule → ℕ → Option Model → Type 0
AreAxisSums quantity c d g axis made = IfSome made (IsSumModel quantity c d (series_of g axis))

-- it covers a value wherever another covers its sum
abbrev pub IsValueOf : Quantity → Series → Model → Model → Type 0
IsValueOf quantity s m k = (p q t : ℤ) → IsArgument p q → Covers m p q (value_sum quantity s t) → Covers k p q (value_interval quantity s t t)

-- of an axis of a granule
abbrev pub IsAxisModel : Quantity → ℤ → ℤ → Granule → ℕ → Option Model → Type 0
IsAxisModel quantity c d g axis made = IsIfMade c d made (λ t. value_interval quantity (series_of g axis) t t)
