use Rattle.spec_searches.proofs.Parts.{split_may}
use Rattle.event_judge.proofs.judging.EventJudgeJudge.cut.Goals as goal

pub parts-requires-clause-may : goal.parts-requires-clause-may
parts-requires-clause-may g c = split_may c.args.self.now.search c.args.node c.requires.split
