-- Two targets seen from an observer in a frame, over an ephemeris: their exact positions and velocities at each time, and
-- the enclosures of these over a span of times. Positions are in km, velocities in km a second.
use Rattle.std.specs.Prelude.{ℕ, zero, suc, ◌<◌, ◌≤◌, All, IsTrue, List, slice_index_or, ℤ, ◌≤ℤ◌}
use Rattle.spec_intervals.specs.Interval.{Interval}
use Rattle.spec_intervals.specs.Fraction.{Fraction}
use Rattle.spec_ephemeris.specs.declared.body.Body.{Body}
use Rattle.spec_ephemeris.specs.declared.body.Body.TheVariants.{Ssb}
use Rattle.spec_ephemeris.specs.declared.limits.TheConstants.{BODY_COLUMNS}
use Rattle.spec_ephemeris.specs.Header.{has_column}
use Rattle.spec_ephemeris.specs.Series.{Series, position}
use Rattle.spec_ephemeris.specs.Ephemeris.{Ephemeris, IsEphemeris, IsBorderIn, end_of}
use Rattle.spec_ephemeris.specs.Velocity.{velocity}
use Rattle.spec_motions.specs.Enclosures.{position_interval, position_step_interval, velocity_interval, velocity_step_interval}
use Rattle.spec_intervals.specs.Enclosure.{Enclosure, enclosure, middle}
use Rattle.spec_expressions.specs.Term.{Leaf, position as position_of, velocity as velocity_of}
use Rattle.spec_bodies.specs.declared.frame.Frame.{Frame}
use Rattle.spec_bodies.specs.declared.source.Source.{Source}
use Rattle.spec_bodies.specs.declared.factor.Factor.{Factor}
use Rattle.spec_bodies.specs.declared.quantity.Quantity.{Quantity}
use Rattle.spec_bodies.specs.declared.quantity.Quantity.TheVariants.{Position, Velocity}
use Rattle.spec_bodies.specs.Sources.{source_of, needed_columns, columns_in_use}
use Rattle.spec_bodies.specs.Coordinates.{Coordinate, coordinate}
use Rattle.spec_ephemeris.specs.Granules.{series_at}
use Rattle.spec_bodies.specs.Meanings.{factor, exact_of, enclosure_of}

pub record View : Type 0 where
  pub ephemeris : Ephemeris
  pub first : Source
  pub second : Source
  pub observer : Source
  pub frame : Frame

abbrev pub view_of : Ephemeris → List Body → Body → Frame → View
view_of e targets observer frame = record {
  ephemeris = e;
  first = source_of (slice_index_or targets 0 Ssb);
  second = source_of (slice_index_or targets 1 Ssb);
  observer = source_of observer;
  frame = frame;
}

-- the targets are numbered 0 and 1
abbrev pub target_of : View → ℕ → Source
target_of v zero = v.first
target_of v (suc target) = v.second

abbrev pub columns_of : View → List ℕ
columns_of v = columns_in_use v.first v.second v.observer

-- a coordinate of a source, and of a target, as the observer sees it in the frame
abbrev pub framed : View → Source → ℕ → Coordinate
framed v source = coordinate source v.observer v.frame

abbrev pub coordinate_of : View → ℕ → ℕ → Coordinate
coordinate_of v target = framed v (target_of v target)

abbrev pub factor_of : View → Factor → Fraction
factor_of v = factor v.ephemeris.header.emrat

-- ---- what an ephemeris must have
abbrev pub HasColumns : Ephemeris → List ℕ → Type 0
HasColumns e = All (λ number. IsTrue (has_column e.header number))

-- the columns that a body needs are there
abbrev pub HasBody : Ephemeris → Body → Type 0
HasBody e body = HasColumns e (needed_columns (source_of body))

-- the columns of a source are there, and are those of bodies
pub record IsThere (e : Ephemeris) (s : Source) : Type 0 where
  pub present : HasColumns e (needed_columns s)
  pub of_bodies : All (λ number. number ≤ BODY_COLUMNS) (needed_columns s)

pub record IsView (v : View) : Type 0 where
  pub checked : IsEphemeris v.ephemeris
  pub block : 0 < v.ephemeris.blocks
  pub first : IsThere v.ephemeris v.first
  pub second : IsThere v.ephemeris v.second
  pub observer : IsThere v.ephemeris v.observer

-- ---- the exact values
abbrev pub exact_value : Quantity → Series → ℤ → Fraction
exact_value Position = position
exact_value Velocity = velocity

abbrev pub exact_column : View → Quantity → ℕ → ℕ → ℤ → Fraction
exact_column v quantity number axis t = exact_value quantity (series_at v.ephemeris number axis t) t

abbrev pub exact_coordinate : View → Quantity → ℕ → ℕ → ℤ → Fraction
exact_coordinate v quantity target axis = exact_of (exact_column v quantity) (factor_of v) (coordinate_of v target axis)

-- ---- the enclosures
-- times from a to b, in order and within the ephemeris, between which no granule of the columns in use begins
pub record Fits (v : View) (a b : ℤ) : Type 0 where
  pub view : IsView v
  pub ordered : a ≤ℤ b
  pub from : v.ephemeris.start ≤ℤ a
  pub upto : b ≤ℤ end_of v.ephemeris
  pub no_border : (t : ℤ) → IsBorderIn v.ephemeris (columns_of v) a b t → ⊥

-- of a series over such times
abbrev pub value_interval : Quantity → Series → ℤ → ℤ → Interval
value_interval Position = position_interval
value_interval Velocity = velocity_interval

abbrev pub step_interval : Quantity → Series → ℤ → ℤ → Interval
step_interval Position = position_step_interval
step_interval Velocity = velocity_step_interval

abbrev pub series_enclosure : Quantity → ℤ → ℤ → Series → Enclosure
series_enclosure quantity a b s =
    enclosure a b (value_interval quantity s (middle a b) (middle a b)) (value_interval quantity s a b) (step_interval quantity s a b)

abbrev pub column_enclosure : View → Quantity → ℤ → ℤ → ℕ → ℕ → Enclosure
column_enclosure v quantity a b number axis = series_enclosure quantity a b (series_at v.ephemeris number axis a)

-- of a formula, and of a coordinate
abbrev pub formula_enclosure : View → Quantity → ℤ → ℤ → Coordinate → Enclosure
formula_enclosure v quantity a b = enclosure_of (column_enclosure v quantity a b) (factor_of v) a b

abbrev pub coordinate_enclosure : View → Quantity → ℕ → ℕ → ℤ → ℤ → Enclosure
coordinate_enclosure v quantity target axis a b = formula_enclosure v quantity a b (coordinate_of v target axis)

-- ---- both, of a coordinate that is asked for
abbrev pub exact_state : View → Leaf → ℤ → Fraction
exact_state v (position_of target axis) = exact_coordinate v Position target axis
exact_state v (velocity_of target axis) = exact_coordinate v Velocity target axis

abbrev pub state_enclosure : View → Leaf → ℤ → ℤ → Enclosure
state_enclosure v (position_of target axis) = coordinate_enclosure v Position target axis
state_enclosure v (velocity_of target axis) = coordinate_enclosure v Velocity target axis
