use Rattle.std.proofs.Common.{◌∙◌, true, false}
use Rattle.granule_values.specs.Parts.{series_parts}
use Rattle.body_states.proofs.states.BodyStates.evaluate_column.Goals as goal

pub returns-then-is_centred : goal.returns-then-is_centred
returns-then-is_centred c =
    let times = c.granule_span-span.ensures.times in
    let series = c.granule_span-span.ensures.series c.args.axis c.requires.axis in
    rw c.if-is_centred.true (c.enclosure_by_new_rows.ensures ∙ λ i. series_parts true c.args.question.now.quantity (times i).first (times i).last (series i))

pub returns-else-is_centred : goal.returns-else-is_centred
returns-else-is_centred c =
    let times = c.granule_span-span.ensures.times in
    let series = c.granule_span-span.ensures.series c.args.axis c.requires.axis in
    rw c.if-is_centred.false (c.range_by_new_rows.ensures ∙ λ i. series_parts false c.args.question.now.quantity (times i).first (times i).last (series i))
