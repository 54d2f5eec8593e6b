use Rattle.spec_searches.proofs.Parts.{parts_are, split_may}
use Rattle.spec_searches.specs.Search.{IsSearch}
use Rattle.event_judge.proofs.judge.EventJudge.nodes_may_be_cut.Goals as goal

pub returns-clause-split : goal.returns-clause-split
returns-clause-split g c = split_may c.args.self.now.search

pub returns-clause-cut : goal.returns-clause-cut
returns-clause-cut g c =
    let s = c.args.self.now.search in
    let is : IsSearch s = c.is_search.ensures in
    λ n valid may. let are = parts_are s is.view n valid may in record { cuts = are.0; left = are.1; right = are.2 }
