use Rattle.std.proofs.Common.{◌∙◌}
use Rattle.spec_bounds.specs.Steady.{sign_at}
use Rattle.event_judge.proofs.valid_node.ValidNode.end_signs.Goals as goal

pub returns-clause-first : goal.returns-clause-first
returns-clause-first g c = c.sign_at.ensures ∙ λ i. sign_at (c.first.ensures.search i) (c.first.ensures.time i)

pub returns-clause-last : goal.returns-clause-last
returns-clause-last g c = c.sign_at-2.ensures ∙ λ i. sign_at (c.last.ensures.search i) (c.last.ensures.time i)
