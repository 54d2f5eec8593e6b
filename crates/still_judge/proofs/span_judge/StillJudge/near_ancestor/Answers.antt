use Rattle.std.proofs.Common.{◌∙◌, sym}
use Rattle.still_judge.proofs.Descent.{further, told}
use Rattle.still_judge.proofs.span_judge.StillJudge.near_ancestor.Goals as goal

pub returns-then-holds_start-clause-below : goal.returns-then-holds_start-clause-below
returns-then-holds_start-clause-below g c =
    further c.args.self.now.search.now c.args.root c.descent_start-start.result c.first_narrow_ancestor-found.result c.descent_start-start.ensures.below c.first_narrow_ancestor-found.ensures.below

pub returns-then-holds_start-clause-same : goal.returns-then-holds_start-clause-same
returns-then-holds_start-clause-same g c =
    let s = c.args.self.now.search.now in
    let below = further s c.args.root c.descent_start-start.result c.first_narrow_ancestor-found.result c.descent_start-start.ensures.below c.first_narrow_ancestor-found.ensures.below in
    told s c.args.root c.first_narrow_ancestor-found.result c.args.node below c.requires.inside (sym c.holds_start.ensures ∙ c.if-holds_start.true)
