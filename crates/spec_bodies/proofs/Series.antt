-- A quantity of a series over a span: it is a number at each time, its intervals hold it and its changes, and their
-- exponents are small.
use Rattle.std.proofs.Common.{◌^◌, arith, ℤ, pos, ◌+ℤ◌, ◌<ℤ◌, ◌≤ℤ◌}
use Rattle.std.proofs.lemmas.Int.{ints}
use Rattle.spec_numbers.proofs.Naturals.{positive_multiple}
use Rattle.spec_intervals.specs.Fraction.{IsFraction, Holds, fraction_sub}
use Rattle.spec_ephemeris.specs.Series.{Series}
use Rattle.spec_motions.specs.Enclosures.{IsSeries, IsSpanOf}
use Rattle.spec_motions.proofs.HeldSpans.{Holds-position}
use Rattle.spec_motions.proofs.HeldChanges.{Holds-velocity, Holds-position_step, Holds-velocity_step}
use Rattle.spec_intervals.specs.Enclosure.{middle}
use Rattle.spec_intervals.proofs.Centred.{middle_between}
use Rattle.spec_bodies.specs.declared.quantity.Quantity.{Quantity}
use Rattle.spec_bodies.specs.declared.quantity.Quantity.TheVariants.{Position, Velocity}
use Rattle.spec_bodies.specs.Reading.{column_lowest, column_highest}
use Rattle.spec_bodies.specs.Views.{exact_value, value_interval, step_interval}
use Rattle.spec_intervals.proofs.Exponents.{IsBetween}
use Rattle.spec_bodies.proofs.Sizes.{position-between, velocity-between, position_step-between, velocity_step-between}

module _ (s : Series) (is : IsSeries s) where
  pub IsFraction-value : (quantity : Quantity) (t : ℤ) → IsFraction (exact_value quantity s t)
  IsFraction-value Position t = positive_multiple (10 ^ 140) s.duration _ (omega arith) is.long
  IsFraction-value Velocity t = positive_multiple (10 ^ 140) s.duration _ (omega arith) is.long

  module _ (a b : ℤ) (span : IsSpanOf s a b) where
    pub Holds-value : (quantity : Quantity) (t : ℤ) → a ≤ℤ t → t ≤ℤ b → Holds (value_interval quantity s a b) (exact_value quantity s t)
    Holds-value Position t = Holds-position s a b t is span
    Holds-value Velocity t = Holds-velocity s a b is span t

    pub Holds-step : (quantity : Quantity) (t : ℤ) → a ≤ℤ t → t <ℤ b → Holds (step_interval quantity s a b) (fraction_sub (exact_value quantity s (t +ℤ pos 1)) (exact_value quantity s t))
    Holds-step Position t = Holds-position_step s a b is span t
    Holds-step Velocity t = Holds-velocity_step s a b is span t

    pub value-between : (quantity : Quantity) → IsBetween column_lowest column_highest (value_interval quantity s a b)
    value-between Position = position-between s is a b span
    value-between Velocity = velocity-between s is a b span

    pub step-between : (quantity : Quantity) → IsBetween column_lowest column_highest (step_interval quantity s a b)
    step-between Position = position_step-between s is a b span
    step-between Velocity = velocity_step-between s is a b span

-- the middle of a span, or one of its times, is a span of its own
pub time_span : (s : Series) (a b t : ℤ) → IsSpanOf s a b → a ≤ℤ t → t ≤ℤ b → IsSpanOf s t t
time_span s a b t span after before =
    let first = span.from in
    let last = span.to in
    record { from = omega (arith, ints, first, after); ordered = omega (arith, ints); to = omega (arith, ints, last, before) }

pub mid_span : (s : Series) (a b : ℤ) → IsSpanOf s a b → IsSpanOf s (middle a b) (middle a b)
mid_span s a b span = let between = middle_between a b span.ordered in time_span s a b (middle a b) span between.0 between.1
