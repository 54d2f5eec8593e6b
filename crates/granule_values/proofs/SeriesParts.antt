-- The parts of an enclosure of a series are within the limits of the rules, and share a value.
use Rattle.std.proofs.Common.{arith, ℤ}
use Rattle.std.proofs.lemmas.Int.{ints}
use Rattle.spec_intervals.specs.Interval.{Interval}
use Rattle.spec_intervals.specs.Fraction.{Overlaps}
use Rattle.spec_intervals.specs.Enclosure.{IsWithin, middle, centred}
use Rattle.spec_intervals.proofs.Enclosed.{Overlaps-parts}
use Rattle.spec_intervals.proofs.Exponents.{IsBetween, between-within}
use Rattle.spec_ephemeris.specs.Series.{Series}
use Rattle.spec_motions.specs.Enclosures.{IsSeries, IsSpanOf}
use Rattle.spec_bodies.specs.declared.quantity.Quantity.{Quantity}
use Rattle.spec_bodies.specs.Reading.{column_lowest, column_highest}
use Rattle.spec_bodies.specs.Views.{exact_value, value_interval, step_interval}
use Rattle.spec_bodies.proofs.Series.{IsFraction-value, Holds-value, Holds-step, value-between, step-between, mid_span}
use Rattle.event_expr.specs.States.{wide_exponent}

pub record AreParts (a b : ℤ) (mid plain step : Interval) : Type 0 where
  pub mid_within : IsWithin wide_exponent mid
  pub plain_within : IsWithin wide_exponent plain
  pub step_within : IsWithin wide_exponent step
  pub shared : Overlaps plain (centred a b mid step)

within : (t : Interval) → IsBetween column_lowest column_highest t → IsWithin wide_exponent t
within t is = between-within column_lowest column_highest wide_exponent t (omega arith) (omega arith) is

pub series_parts : (s : Series) (quantity : Quantity) (a b : ℤ) → IsSeries s → IsSpanOf s a b
    → AreParts a b (value_interval quantity s (middle a b) (middle a b)) (value_interval quantity s a b) (step_interval quantity s a b)
series_parts s quantity a b is span = record {
  mid_within = within _ (value-between s is (middle a b) (middle a b) (mid_span s a b span) quantity);
  plain_within = within _ (value-between s is a b span quantity);
  step_within = within _ (step-between s is a b span quantity);
  shared = Overlaps-parts (exact_value quantity s) a b (λ t p q. IsFraction-value s is quantity t) span.ordered _ _ _ (record {
    mid = Holds-value s is (middle a b) (middle a b) (mid_span s a b span) quantity (middle a b) (omega (arith, ints)) (omega (arith, ints));
    plain = Holds-value s is a b span quantity;
    step = Holds-step s is a b span quantity;
  });
}
