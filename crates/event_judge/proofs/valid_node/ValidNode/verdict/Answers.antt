use Rattle.std.proofs.Common.{◌∙◌, sym, ap, is_some}
use Rattle.event_judge.proofs.valid_node.ValidNode.verdict.Goals as goal

pub borderless_verdict-requires-clause-uncrossed : goal.borderless_verdict-requires-clause-uncrossed
borderless_verdict-requires-clause-uncrossed g c = ap is_some (sym c.nearest_border.ensures ∙ c.in-None.is)

pub border_verdict-requires-clause-crossed : goal.border_verdict-requires-clause-crossed
border_verdict-requires-clause-crossed g c = ap is_some (sym c.nearest_border.ensures ∙ c.in-Some.is)
