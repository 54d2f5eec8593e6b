use Rattle.granule_values.proofs.Sums.{range_is}
use Rattle.granule_values.proofs.granule_span.GranuleSpan.range_by_rows.Goals as goal

pub returns : goal.returns
returns c =
    let range = range_is c.args.self.now c.args.quantity c.args.axis c.of-terms.result c.of-terms.ensures.terms c.value_over-range.result c.args.whole.now c.requires.whole c.value_over-range.ensures in
    λ i. record { mid = range i; range = range i; step = c.changes_over-step.ensures i }
