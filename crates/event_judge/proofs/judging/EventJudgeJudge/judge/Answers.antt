use Rattle.std.proofs.Common.{◌∙◌, sym}
use Rattle.spec_searches.proofs.Finding.{clear_holds_none, one_holds_one}
use Rattle.event_judge.proofs.judging.EventJudgeJudge.judge.Goals as goal

pub returns-clause-clear : goal.returns-clause-clear
returns-clause-clear g c = λ e. clear_holds_none c.args.self.now.search c.is_search.ensures c.args.node c.requires (sym c.verdict.ensures ∙ e)

pub returns-clause-one : goal.returns-clause-one
returns-clause-one g c = λ turn e. one_holds_one c.args.self.now.search c.is_search.ensures c.args.node c.requires turn (sym c.verdict.ensures ∙ e)
