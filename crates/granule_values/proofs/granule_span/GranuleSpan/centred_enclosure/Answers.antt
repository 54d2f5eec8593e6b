use Rattle.std.proofs.Common.{◌≡◌, ◌∙◌}
use Rattle.spec_intervals.specs.Enclosure.{enclosure, middle}
use Rattle.spec_ephemeris.specs.Granules.{series_of}
use Rattle.spec_bodies.specs.Views.{value_interval, step_interval}
use Rattle.granule_values.proofs.SeriesParts.{AreParts}
use Rattle.granule_values.proofs.Sums.{mid_is, range_is, step_is, span_parts}
use Rattle.granule_values.proofs.granule_span.GranuleSpan.centred_enclosure.Goals as goal
use Rattle.granule_values.proofs.granule_span.GranuleSpan.centred_enclosure.Goals.{After-step_over-step}

-- the three sums are the intervals of the series
abbrev Sums : After-step_over-step → Type 0
Sums c =
    let s = c.args.self.now in
    let series = series_of s.granule c.args.axis in
    let a = s.times.now.first in
    let b = s.times.now.last in
    (c.value_over-mid.result ≡ value_interval c.args.quantity series (middle a b) (middle a b)) × (c.value_over-range.result ≡ value_interval c.args.quantity series a b) × (c.step_over-step.result ≡ step_interval c.args.quantity series a b)

sums : (c : After-step_over-step) → Sums c
sums c =
    let s = c.args.self.now in
    let room = c.args.room.now in
    let terms = c.of-terms.ensures.terms in (
      mid_is s c.args.quantity c.args.axis c.of-terms.result terms c.value_over-mid.result room.centre c.requires.centre c.value_over-mid.ensures,
      range_is s c.args.quantity c.args.axis c.of-terms.result terms c.value_over-range.result room.whole c.requires.whole c.value_over-range.ensures,
      step_is s c.args.quantity c.args.axis c.of-terms.result terms c.step_over-step.result room.whole c.requires.whole c.requires.several c.step_over-step.ensures,
    )

are : (c : After-step_over-step) → AreParts c.args.self.now.times.now.first c.args.self.now.times.now.last c.value_over-mid.result c.value_over-range.result c.step_over-step.result
are c = let is = sums c in rw (is.0, is.1, is.2) (span_parts c.args.self.now c.args.quantity c.args.axis c.requires.axis)

pub value_over-mid-requires : goal.value_over-mid-requires
value_over-mid-requires c = rw c.of-terms.ensures.count (record { row = c.requires.centre.row })

pub value_over-range-requires : goal.value_over-range-requires
value_over-range-requires c = rw c.of-terms.ensures.count (record { row = c.requires.whole.rows.plain })

pub step_over-step-requires : goal.step_over-step-requires
step_over-step-requires c = rw c.of-terms.ensures.count (record { rows = c.requires.whole.rows })

pub wide-requires-clause-mid_within : goal.wide-requires-clause-mid_within
wide-requires-clause-mid_within c = (are c).mid_within

pub wide-requires-clause-plain_within : goal.wide-requires-clause-plain_within
wide-requires-clause-plain_within c = (are c).plain_within

pub wide-requires-clause-step_within : goal.wide-requires-clause-step_within
wide-requires-clause-step_within c = (are c).step_within

pub wide-requires-clause-shared : goal.wide-requires-clause-shared
wide-requires-clause-shared c = (are c).shared

pub returns : goal.returns
returns c =
    let is = sums (goal.at.returns c).After-step_over-step in
    c.wide.ensures ∙ λ i. enclosure c.args.self.now.times.now.first c.args.self.now.times.now.last (is.0 i) (is.1 i) (is.2 i)
