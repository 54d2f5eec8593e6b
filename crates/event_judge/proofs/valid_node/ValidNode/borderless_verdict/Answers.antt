use Rattle.std.proofs.Common.{ap}
use Rattle.event_judge.specs.Listed.{slot_count}
use Rattle.event_judge.proofs.valid_node.ValidNode.borderless_verdict.Goals as goal

pub borderless_verdict_with_slots-requires-clause-slots : goal.borderless_verdict_with_slots-requires-clause-slots
borderless_verdict_with_slots-requires-clause-slots g c = ap slot_count c.in-Of28.is

pub borderless_verdict_with_slots-requires-in-Of64-clause-slots : goal.borderless_verdict_with_slots-requires-in-Of64-clause-slots
borderless_verdict_with_slots-requires-in-Of64-clause-slots g c = ap slot_count c.in-Of64.is

pub borderless_verdict_with_slots-requires-in-Of128-clause-slots : goal.borderless_verdict_with_slots-requires-in-Of128-clause-slots
borderless_verdict_with_slots-requires-in-Of128-clause-slots g c = ap slot_count c.in-Of128.is

pub borderless_verdict_with_slots-requires-in-Of256-clause-slots : goal.borderless_verdict_with_slots-requires-in-Of256-clause-slots
borderless_verdict_with_slots-requires-in-Of256-clause-slots g c = ap slot_count c.in-Of256.is
