use Rattle.spec_bodies.proofs.InUse.{present_in_use}
use Rattle.still_spans.proofs.worth.cuts_granules_finely.Goals as goal

pub shortest_granule_length-shortest-requires-clause-present : goal.shortest_granule_length-shortest-requires-clause-present
shortest_granule_length-shortest-requires-clause-present c = rw (c.columns-columns.ensures.in_use, c.ephemeris.ensures, ← c.states.ensures) (present_in_use c.states.result.now c.columns-columns.ensures.view)
