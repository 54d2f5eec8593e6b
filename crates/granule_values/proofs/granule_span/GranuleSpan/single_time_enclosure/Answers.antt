use Rattle.granule_values.proofs.Sums.{mid_is, single_parts}
use Rattle.granule_values.proofs.granule_span.GranuleSpan.single_time_enclosure.Goals as goal

pub value_over-mid-requires : goal.value_over-mid-requires
value_over-mid-requires c = rw c.of-terms.ensures.count (record { row = c.requires.centre.row })

pub returns : goal.returns
returns c =
    let mid = mid_is c.args.self.now c.args.quantity c.args.axis c.of-terms.result c.of-terms.ensures.terms c.value_over-mid.result c.args.centre.now c.requires.centre c.value_over-mid.ensures in
    single_parts c.args.self.now c.args.quantity c.args.axis c.requires.single c.value_over-mid.result _ mid c.single.ensures
