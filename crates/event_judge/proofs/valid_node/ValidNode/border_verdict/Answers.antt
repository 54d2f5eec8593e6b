use Rattle.std.proofs.Common.{◌∙◌, sym}
use Rattle.event_judge.proofs.Looking.{at_border, unit_at_border}
use Rattle.event_judge.proofs.valid_node.ValidNode.border_verdict.Goals as goal

pub returns-then-is_wide : goal.returns-then-is_wide
returns-then-is_wide g c = sym (at_border c.args.self.search.now c.width-width.ensures.some c.args.self.node c.args.self.valid.inside c.requires.crossed (sym c.is_wide.ensures ∙ c.if-is_wide.true))

pub returns-else-is_wide : goal.returns-else-is_wide
returns-else-is_wide g c = c.unit_verdict.ensures ∙ sym (unit_at_border c.args.self.search.now c.width-width.ensures.some c.args.self.node c.args.self.valid.inside c.requires.crossed (sym c.is_wide.ensures ∙ c.if-is_wide.false))
