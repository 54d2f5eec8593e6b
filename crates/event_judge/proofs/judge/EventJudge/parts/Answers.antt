use Rattle.event_judge.proofs.Near.{cut_inside}
use Rattle.event_judge.proofs.judge.EventJudge.parts.Goals as goal

pub cut-requires : goal.cut-requires
cut-requires g c = cut_inside c.args.self.now.search c.is_search.ensures.view c.args.node c.requires.valid c.requires.may
