use Rattle.std.proofs.Common.{◌∙◌, sym}
use Rattle.still_judge.proofs.Manners.{valid_in}
use Rattle.still_judge.proofs.judging.StillJudgeJudge.judge.Goals as goal

pub known_verdict-requires-clause-valid : goal.known_verdict-requires-clause-valid
known_verdict-requires-clause-valid g c = let j = c.args.self.now in valid_in j.manner j.search.now j.stills.now c.args.node c.requires

pub judge-requires : goal.judge-requires
judge-requires g c =
    let j = c.args.self.now in
    j.valid c.args.node (valid_in j.manner j.search.now j.stills.now c.args.node c.requires)

pub returns-in-None : goal.returns-in-None
returns-in-None g c = c.judge.ensures ∙ c.args.self.now.verdicts c.args.node ∙ sym c.in-None.ensures.none
