use Rattle.std.proofs.Common.{◌∙◌}
use Rattle.still_judge.proofs.span_judge.StillJudge.verdict.Goals as goal

pub judge-requires : goal.judge-requires
judge-requires g c = c.args.self.now.valid c.args.node c.requires

pub returns-in-None : goal.returns-in-None
returns-in-None g c = c.judge.ensures ∙ c.args.self.now.verdicts c.args.node
