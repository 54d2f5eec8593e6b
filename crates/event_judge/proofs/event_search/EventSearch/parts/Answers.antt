use Rattle.event_judge.proofs.Near.{cut_inside}
use Rattle.event_judge.proofs.event_search.EventSearch.parts.Goals as goal

pub rule_cut-requires : goal.rule_cut-requires
rule_cut-requires c = cut_inside c.args.self.now c.is_search.ensures.view c.args.node c.requires.valid c.requires.may
