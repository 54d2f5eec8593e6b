use Rattle.std.proofs.Common.{◌∙◌, true}
use Rattle.granule_values.specs.Parts.{series_parts}
use Rattle.body_states.proofs.Entries.{same_wanted}
use Rattle.body_states.proofs.states.BodyStates.write_entry.Goals as goal

pub returns-clause-entry : goal.returns-clause-entry
returns-clause-entry c =
    let q = c.args.question.now in
    let along = c.write_along.ensures.along ∙ same_wanted q.axes _ _ (λ axis three i.
    let times = c.granule_span-span.ensures.times in
    let series = c.granule_span-span.ensures.series axis three in
    series_parts true q.quantity (times i).first (times i).last (series i)) in
    λ i. record { number = c.args.number; along = along i }
