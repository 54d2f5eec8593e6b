use Rattle.std.proofs.Common.{◌∙◌, sym, subst}
use Rattle.still_judge.specs.Below.{IsBelow}
use Rattle.still_judge.proofs.Descent.{further, part_below}
use Rattle.still_judge.proofs.span_judge.StillJudge.+first_narrow_ancestor.Goals as goal

pub part_towards-requires-clause-split : goal.part_towards-requires-clause-split
part_towards-requires-clause-split t g c κs within = sym c.verdict.ensures ∙ c.in-Split.is

pub returns-in-Split-clause-below : goal.returns-in-Split-clause-below
returns-in-Split-clause-below t g c =
    let j = c.args.self.now in
    let s = j.search.now in
    let split = sym c.verdict.ensures ∙ c.in-Split.is in
    let part = subst (IsBelow s c.args.at) (sym c.part_towards.ensures.part) (part_below s c.is_search.ensures c.args.at c.args.node c.requires.valid split) in
    further s c.args.at c.part_towards.result c.first_narrow_ancestor.result part c.first_narrow_ancestor.ensures.below
