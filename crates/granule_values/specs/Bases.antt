-- Rows of the bases, and sums over them.
use Rattle.std.specs.Prelude.{◌≡◌, ◌<◌, ◌≤◌, true, false, ℕ, suc, List, ℤ}
use lib.Signed.{lt_z}
use Rattle.spec_intervals.specs.Interval.{Interval}
use Rattle.spec_intervals.specs.Enclosure.{middle}
use Rattle.spec_chebyshev.specs.declared.ends.Ival62.{Ival62}
use Rattle.spec_chebyshev.specs.Rows.{t_row, q_row, entry, IsArguments}
use Rattle.spec_ephemeris.specs.declared.granule.Granule.{Granule}
use Rattle.spec_ephemeris.specs.Granules.{series_of}
use Rattle.spec_motions.specs.Enclosures.{arguments, position_over, position_step_over, velocity_over, velocity_step_over}
use Rattle.spec_bodies.specs.declared.quantity.Quantity.{Quantity}
use Rattle.spec_bodies.specs.declared.quantity.Quantity.TheVariants.{Position, Velocity}
use Rattle.spec_motions.specs.Sums.{slope_difference_row, slope_row}
use Rattle.granule_values.specs.declared.bases.PlainRow.{PlainRow}
use Rattle.granule_values.specs.declared.bases.Rows.{Rows}
use Rattle.granule_values.specs.declared.bases.RowRoom.{RowRoom}
use Rattle.granule_values.specs.declared.axis_entries.ColumnQuestion.{ColumnQuestion}
use Rattle.granule_values.specs.declared.granule_span.GranuleSpan.{GranuleSpan}

-- entry k of a row belongs to T_k for positions, and to the slope of T_(k + 1) for velocities
abbrev pub term_at : Quantity → ℕ → ℕ
term_at Position k = k
term_at Velocity k = suc k

-- a quantity's values for each term: T for positions, slopes by U for velocities
abbrev pub value_row : Quantity → Ival62 → ℕ → Ival62
value_row Position x = t_row x
value_row Velocity x = slope_row x

-- and its changes: Q for positions, changes of slopes by R for velocities
abbrev pub step_row : Quantity → Ival62 → ℕ → Ival62
step_row Position x = q_row x
step_row Velocity x = slope_difference_row x

-- a row is made as far as sums over n terms take it
abbrev pub IsMade : Quantity → ℕ → List Ival62 → (ℕ → Ival62) → Type 0
IsMade quantity n row exact = (k : ℕ) → term_at quantity k < n → entry row k ≡ exact (term_at quantity k)

pub record ArePlain (quantity : Quantity) (n : ℕ) (row : PlainRow) : Type 0 where
  pub unit : IsArguments row.arguments
  pub values : IsMade quantity n row.values (value_row quantity row.arguments)

pub record AreAll (quantity : Quantity) (n : ℕ) (rows : Rows) : Type 0 where
  pub plain : ArePlain quantity n rows.plain
  pub steps : IsMade quantity n rows.steps (step_row quantity rows.plain.arguments)

-- the arguments are those of the times from a to b in a granule
abbrev pub AreOver : Granule → ℤ → ℤ → PlainRow → Type 0
AreOver g a b row = (axis : ℕ) → row.arguments ≡ arguments (series_of g axis) a b

-- the row of values in the middle of the times
pub record IsCentre (s : GranuleSpan) (quantity : Quantity) (made : PlainRow) : Type 0 where
  pub over : AreOver s.granule (middle s.times.now.first s.times.now.last) (middle s.times.now.first s.times.now.last) made
  pub row : ArePlain quantity s.granule.n made

-- both rows over all times
pub record IsWhole (s : GranuleSpan) (quantity : Quantity) (made : Rows) : Type 0 where
  pub over : AreOver s.granule s.times.now.first s.times.now.last made.plain
  pub rows : AreAll quantity s.granule.n made

-- there is one time, or there are several
abbrev pub IsSingle : GranuleSpan → Type 0
IsSingle s = lt_z s.times.now.first s.times.now.last ≡ false

abbrev pub AreSeveral : GranuleSpan → Type 0
AreSeveral s = lt_z s.times.now.first s.times.now.last ≡ true

-- rows serve a granule that begins with theirs, takes as long, and has no more coefficients than they have entries
pub record IsServed (g : Granule) (room : RowRoom) : Type 0 where
  pub start : g.start ≡ room.start
  pub seconds : g.seconds ≡ room.seconds
  pub few : g.n ≤ room.entries

-- the rows wanted of a span: the one in the middle, and both over all times if there are several
pub record AreRows (s : GranuleSpan) (quantity : Quantity) (room : RowRoom) : Type 0 where
  pub centre : IsCentre s quantity room.centre
  pub whole : AreSeveral s → IsWhole s quantity room.whole

-- what is kept for a question is right for each granule that it serves
abbrev pub AreKept : ColumnQuestion → RowRoom → Type 0
AreKept q room = (s : GranuleSpan) → s.times.now.first ≡ q.times.now.first → s.times.now.last ≡ q.times.now.last → IsServed s.granule room
    → AreRows s q.quantity room

-- ---- sums over the rows, by terms, arguments and a length in seconds
abbrev pub value_over : Quantity → List Ival62 → Ival62 → ℕ → Interval
value_over Position terms x length = position_over terms x
value_over Velocity terms x length = velocity_over terms x length

abbrev pub step_over : Quantity → List Ival62 → Ival62 → ℕ → Interval
step_over Position terms x length = position_step_over terms x length
step_over Velocity terms x length = velocity_step_over terms x length
