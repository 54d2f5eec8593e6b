-- What is seen of a view over one span of times.
use Rattle.std.specs.Prelude.{◌≡◌, ℤ, true, List, length}
use Rattle.spec_intervals.specs.Interval.{Interval}
use Rattle.spec_intervals.specs.Enclosure.{Enclosure}
use Rattle.spec_expressions.specs.Term.{Term, enclosure_of}
use Rattle.spec_bodies.specs.declared.quantity.Quantity.{Quantity}
use Rattle.spec_bodies.specs.declared.quantity.Quantity.TheVariants.{Position, Velocity}
use Rattle.spec_bodies.specs.Views.{Fits, View, state_enclosure}
use Rattle.event_expr.specs.declared.axes.Axes.{Axes}
use Rattle.spec_steps.specs.ColumnTerms.{ColumnTerm, of_term, sight_of}
use Rattle.spec_steps.specs.Meanings.{enclosure_meant, point_meant}
use Rattle.body_states.specs.declared.column_entries.ColumnEntry.{ColumnEntry}
use Rattle.body_states.specs.declared.single_time.SingleTime.{SingleTime}
use Rattle.body_states.specs.Ranges.{AreWritten}

pub record Moment : Type 0 where
  pub view : View
  pub first : ℤ
  pub last : ℤ

-- the enclosure of a formula over its times
abbrev pub enclosure_in : Moment → Term → Enclosure
enclosure_in m term = enclosure_of (λ leaf. state_enclosure m.view leaf m.first m.last) m.first m.last term

-- and that of a term over columns
abbrev pub meant_in : Moment → ColumnTerm → Enclosure
meant_in m = enclosure_meant m.view m.first m.last

-- the first columns in use are made along some axes, if any, over the times from a to b
abbrev pub AreMade : View → Quantity → Axes → ℤ → ℤ → List ColumnEntry → Type 0
AreMade v quantity axes a b columns = AreWritten true (record { view = v; quantity = quantity; axes = axes; first = a; last = b }) columns × (length columns ≡ 4)

-- ---- at a single time
-- the interval of a term over columns
abbrev pub point_at : View → ℤ → ColumnTerm → Interval
point_at v t = point_meant v t t

-- and that of a formula
abbrev pub formula_point : View → ℤ → Term → Interval
formula_point v t e = point_at v t (of_term (sight_of v) e)

abbrev pub point_in : SingleTime → ColumnTerm → Interval
point_in s = point_at s.states.now s.times.now.first

-- the first columns in use are made along some axes, if any
abbrev pub IsWrittenAt : SingleTime → Quantity → Axes → List ColumnEntry → Type 0
IsWrittenAt s quantity axes columns = AreWritten true (record { view = s.states.now; quantity = quantity; axes = axes; first = s.times.now.first; last = s.times.now.last }) columns

-- there is one time, at which every column in use can be read
pub record IsSingle (s : SingleTime) : Type 0 where
  pub alone : s.times.now.last ≡ s.times.now.first
  pub fits : Fits s.states.now s.times.now.first s.times.now.last
  pub positions : IsWrittenAt s Position s.position_axes s.positions.now
  pub velocities : IsWrittenAt s Velocity s.velocity_axes s.velocities.now
