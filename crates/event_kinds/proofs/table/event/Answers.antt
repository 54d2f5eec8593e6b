use Rattle.std.proofs.Common.{sym, ◌∙◌}
use Rattle.spec_kinds.proofs.Served.{served}
use Rattle.event_kinds.proofs.table.event.Goals as goal

pub event_of_kind-requires-clause-in_range : goal.event_of_kind-requires-clause-in_range
event_of_kind-requires-clause-in_range c = (served c.args.eph.now c.args.ask.now (sym c.first_fault.ensures ∙ c.in-None.is)).in_range
