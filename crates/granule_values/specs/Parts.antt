-- What a quantity is over some times within a granule: an enclosure, or, if the middle is not looked at, a range.
use Rattle.std.specs.Prelude.{ℕ, zero, suc, ℤ, Bool, true, false, Option, None, Some}
use Rattle.spec_intervals.specs.Enclosure.{Enclosure}
use Rattle.spec_ephemeris.specs.Granules.{series_of}
use Rattle.spec_ephemeris.specs.Series.{Series}
use Rattle.spec_bodies.specs.declared.quantity.Quantity.{Quantity}
use Rattle.spec_bodies.specs.Views.{series_enclosure, step_interval, value_interval}
use Rattle.event_expr.specs.declared.axes.Axes.{Axes}
use Rattle.granule_values.specs.declared.axis_entries.AxisEntries.{AxisEntries}
use Rattle.granule_values.specs.declared.granule_span.GranuleSpan.{GranuleSpan}

-- the enclosure of a series, or, if the middle is not looked at, one whose mid and range both hold all values
abbrev pub series_parts : Bool → Quantity → ℤ → ℤ → Series → Enclosure
series_parts true quantity a b s = series_enclosure quantity a b s
series_parts false quantity a b s = record { mid = value_interval quantity s a b; range = value_interval quantity s a b; step = step_interval quantity s a b }

-- that of a granule along an axis
abbrev pub granule_parts : GranuleSpan → Bool → Quantity → ℕ → Enclosure
granule_parts s centred quantity axis = series_parts centred quantity s.times.now.first s.times.now.last (series_of s.granule axis)

-- ---- those that are wanted, by axis
abbrev pub nothing_along : AxisEntries
nothing_along = record { x = None; y = None; z = None }

abbrev pub if_wanted : Bool → Enclosure → Option Enclosure
if_wanted true parts = Some parts
if_wanted false parts = None

abbrev pub wanted_along : Axes → (ℕ → Enclosure) → AxisEntries
wanted_along axes parts = record { x = if_wanted axes.x (parts 0); y = if_wanted axes.y (parts 1); z = if_wanted axes.z (parts 2) }

abbrev pub entry_at : AxisEntries → ℕ → Option Enclosure
entry_at e zero = e.x
entry_at e (suc zero) = e.y
entry_at e (suc (suc axis)) = e.z
