use Rattle.spec_bodies.proofs.InUse.{present_in_use}
use Rattle.still_spans.proofs.granules.last_time_in_granules.Goals as goal

pub last_time_before_border-requires-clause-present : goal.last_time_before_border-requires-clause-present
last_time_before_border-requires-clause-present c = rw (c.columns-columns.ensures.in_use, c.ephemeris.ensures, ← c.states.ensures) (present_in_use c.states.result.now c.columns-columns.ensures.view)
