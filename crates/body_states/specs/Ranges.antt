-- What the columns in use are over some times: enclosures, or, if the middle is not looked at, ranges.
use Rattle.std.specs.Prelude.{◌≡◌, ◌<◌, ◌+◌, ◌||◌, ℕ, zero, suc, ℤ, Bool, true, List, length, take, slice_index_or}
use Rattle.spec_intervals.specs.Enclosure.{Enclosure}
use Rattle.spec_ephemeris.specs.Granules.{series_at}
use Rattle.spec_bodies.specs.declared.frame.Frame.{Frame}
use Rattle.spec_bodies.specs.declared.frame.Frame.TheVariants.{Eq, Ecl}
use Rattle.spec_bodies.specs.declared.quantity.Quantity.{Quantity}
use Rattle.spec_bodies.specs.Views.{View, columns_of, step_interval, value_interval}
use Rattle.event_expr.specs.declared.axes.Axes.{Axes}
use Rattle.granule_values.specs.declared.axis_entries.ColumnQuestion.{ColumnQuestion}
use Rattle.granule_values.specs.Parts.{nothing_along, series_parts, wanted_along}
use Rattle.body_states.specs.declared.column_entries.ColumnEntry.{ColumnEntry}
use Rattle.body_states.specs.declared.column_ranges.ColumnRange.{ColumnRange}
use Rattle.body_states.specs.declared.sources.TheConstants.{KEPT_COLUMNS}

-- a quantity of the columns of a view along some axes of the files, over the times from a first to a last
pub record Asked : Type 0 where
  pub view : View
  pub quantity : Quantity
  pub axes : Axes
  pub first : ℤ
  pub last : ℤ

abbrev pub asked_of : View → ColumnQuestion → Asked
asked_of v q = record { view = v; quantity = q.quantity; axes = q.axes; first = q.times.now.first; last = q.times.now.last }

-- the values and the changes of a column along an axis
abbrev pub column_range : Asked → ℕ → ℕ → ColumnRange
column_range q number axis =
    let s = series_at q.view.ephemeris number axis q.first in
    record { values = value_interval q.quantity s q.first q.last; changes = step_interval q.quantity s q.first q.last }

-- their enclosure, or, if the middle is not looked at, their range as mid and range
abbrev pub column_parts : Bool → Asked → ℕ → ℕ → Enclosure
column_parts centred q number axis = series_parts centred q.quantity q.first q.last (series_at q.view.ephemeris number axis q.first)

-- ---- the axes of the files that axes of a frame are made of
abbrev pub own_axes : Frame → Axes → Axes
own_axes Eq axes = axes
own_axes Ecl axes = record { x = axes.x; y = axes.y || axes.z; z = axes.y || axes.z }

-- ---- those that are wanted, by axis
abbrev pub is_any : Axes → Bool
is_any axes = axes.x || (axes.y || axes.z)

-- ---- of a column, and of the first columns in use, as many as are kept
abbrev pub nothing_entered : ColumnEntry
nothing_entered = record { number = 0; along = nothing_along }

abbrev pub entry_of : Bool → Asked → ℕ → ColumnEntry
entry_of centred q number = record { number = number; along = wanted_along q.axes (column_parts centred q number) }

abbrev pub kept_columns : View → List ℕ
kept_columns v = take KEPT_COLUMNS (columns_of v)

abbrev pub IsEntryAt : Bool → Asked → List ColumnEntry → ℕ → Type 0
IsEntryAt centred q entries place = slice_index_or entries place nothing_entered ≡ entry_of centred q (slice_index_or (columns_of q.view) place 0)

abbrev pub AreEntries : Bool → Asked → List ColumnEntry → Type 0
AreEntries centred q entries = (place : ℕ) → place < length (columns_of q.view) → place < KEPT_COLUMNS → IsEntryAt centred q entries place

-- if some axis is wanted
abbrev pub AreWritten : Bool → Asked → List ColumnEntry → Type 0
AreWritten centred q entries = is_any q.axes ≡ true → AreEntries centred q entries

-- ---- the columns are written in two rounds: in the first those that share rows with others, which want some entries
abbrev pub turn_of : ℕ → ℕ → ℕ → ℕ
turn_of count zero place = count + place
turn_of count (suc entries) place = place
