use Rattle.spec_bodies.proofs.InUse.{present_in_use}
use Rattle.event_judge.proofs.valid_node.ValidNode.nearest_border.Goals as goal

pub border_near-requires-clause-present : goal.border_near-requires-clause-present
border_near-requires-clause-present c = rw (c.columns-columns.ensures.in_use, c.ephemeris.ensures, ← c.states.ensures) (present_in_use c.states.result.now c.columns-columns.ensures.view)
