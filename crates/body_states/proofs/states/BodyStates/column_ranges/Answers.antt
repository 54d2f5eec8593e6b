use Rattle.body_states.proofs.states.BodyStates.column_ranges.Goals as goal

pub invariant_of-result : goal.invariant_of-result
invariant_of-result c = (c.write_ranges.ensures.entries, c.write_ranges.ensures.count, c.requires)
