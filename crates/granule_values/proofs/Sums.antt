-- Sums over bases that are made once are the intervals of the series.
use Rattle.std.proofs.Common.{◌≡◌, ◌∙◌, ℕ, ◌<◌, true, refl, List, ℤ}
use lib.Signed.{lt_z}
use Rattle.spec_chebyshev.specs.declared.ends.Ival62.{Ival62}
use Rattle.spec_intervals.specs.Interval.{Interval}
use Rattle.spec_intervals.specs.Enclosure.{Enclosure, enclosure, middle}
use Rattle.spec_ephemeris.specs.Granules.{series_of}
use Rattle.spec_ephemeris.specs.Series.{Series}
use Rattle.spec_motions.specs.Enclosures.{arguments, coefficients_of}
use Rattle.spec_motions.proofs.GranuleSeries.{IsSeries-of, IsSpan-of}
use Rattle.spec_bodies.specs.declared.quantity.Quantity.{Quantity}
use Rattle.spec_bodies.specs.declared.quantity.Quantity.TheVariants.{Position, Velocity}
use Rattle.spec_bodies.specs.Views.{value_interval, step_interval}
use Rattle.granule_values.specs.declared.granule_span.GranuleSpan.{GranuleSpan}
use Rattle.granule_values.specs.declared.bases.PlainRow.{PlainRow}
use Rattle.granule_values.specs.declared.bases.Rows.{Rows}
use Rattle.granule_values.specs.Bases.{IsCentre, IsWhole, IsSingle, AreSeveral, value_over, step_over}
use Rattle.granule_values.specs.Parts.{granule_parts}
use Rattle.granule_values.proofs.SeriesParts.{AreParts, series_parts}

pub value_over-arguments : (quantity : Quantity) (s : Series) (a b : ℤ) → value_over quantity (coefficients_of s) (arguments s a b) s.duration ≡ value_interval quantity s a b
value_over-arguments Position s a b = refl
value_over-arguments Velocity s a b = refl

pub step_over-arguments : (quantity : Quantity) (s : Series) (a b : ℤ) → lt_z a b ≡ true → step_over quantity (coefficients_of s) (arguments s a b) s.duration ≡ step_interval quantity s a b
step_over-arguments Position s a b several = rw several refl
step_over-arguments Velocity s a b several = rw several refl

pub span_parts : (s : GranuleSpan) (quantity : Quantity) (axis : ℕ) → axis < 3
    → AreParts s.times.now.first s.times.now.last (value_interval quantity (series_of s.granule axis) (middle s.times.now.first s.times.now.last) (middle s.times.now.first s.times.now.last)) (value_interval quantity (series_of s.granule axis) s.times.now.first s.times.now.last) (step_interval quantity (series_of s.granule axis) s.times.now.first s.times.now.last)
span_parts s quantity axis three =
    let within : axis < s.granule.comps = rw s.axes three in
    series_parts (series_of s.granule axis) quantity s.times.now.first s.times.now.last (IsSeries-of s.granule s.evaluable axis within)
    (IsSpan-of s.granule s.evaluable axis within s.times.now.first s.times.now.last s.from s.order s.upto)

-- ---- at a single time
pub single_parts : (s : GranuleSpan) (quantity : Quantity) (axis : ℕ) → IsSingle s → (t : Interval) (made : Enclosure)
    → t ≡ value_interval quantity (series_of s.granule axis) (middle s.times.now.first s.times.now.last) (middle s.times.now.first s.times.now.last)
    → ((plain step : Interval) → made ≡ enclosure s.times.now.first s.times.now.last t plain step) → made ≡ granule_parts s true quantity axis
single_parts s quantity axis single t made mid is =
    is _ _ ∙ λ i. enclosure s.times.now.first s.times.now.last (mid i) (value_interval quantity (series_of s.granule axis) s.times.now.first s.times.now.last) (step_interval quantity (series_of s.granule axis) s.times.now.first s.times.now.last)

-- ---- sums by the coefficients of an axis are the intervals of its series
module _ (s : GranuleSpan) (quantity : Quantity) (axis : ℕ) (terms : List Ival62) (are : terms ≡ coefficients_of (series_of s.granule axis)) (t : Interval) where
  pub mid_is : (row : PlainRow) → IsCentre s quantity row → t ≡ value_over quantity terms row.arguments s.divider.now
      → t ≡ value_interval quantity (series_of s.granule axis) (middle s.times.now.first s.times.now.last) (middle s.times.now.first s.times.now.last)
  mid_is row is e = e ∙ (λ i. value_over quantity (are i) (is.over axis i) (s.seconds i)) ∙ value_over-arguments quantity (series_of s.granule axis) _ _

  pub range_is : (rows : Rows) → IsWhole s quantity rows → t ≡ value_over quantity terms rows.plain.arguments s.divider.now
      → t ≡ value_interval quantity (series_of s.granule axis) s.times.now.first s.times.now.last
  range_is rows is e = e ∙ (λ i. value_over quantity (are i) (is.over axis i) (s.seconds i)) ∙ value_over-arguments quantity (series_of s.granule axis) _ _

  pub step_is : (rows : Rows) → IsWhole s quantity rows → AreSeveral s → t ≡ step_over quantity terms rows.plain.arguments s.divider.now
      → t ≡ step_interval quantity (series_of s.granule axis) s.times.now.first s.times.now.last
  step_is rows is several e = e ∙ (λ i. step_over quantity (are i) (is.over axis i) (s.seconds i)) ∙ step_over-arguments quantity (series_of s.granule axis) _ _ several
