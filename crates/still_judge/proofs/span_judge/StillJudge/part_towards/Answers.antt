use Rattle.std.proofs.Common.{◌∙◌, ◌<◌, sym, ap, subst}
use Rattle.spec_trees.specs.declared.tree.Node.{Node}
use Rattle.spec_trees.specs.Tree.{IsValid, width}
use Rattle.spec_searches.specs.Found.{rules}
use Rattle.spec_searches.proofs.Parts.{split_may}
use Rattle.spec_stills.specs.Settled.{part_with}
use Rattle.spec_stills.proofs.Descending.{part_is_narrower, part_is_valid}
use Rattle.still_judge.proofs.span_judge.StillJudge.part_towards.Goals as goal

pub parts-both-requires-clause-may : goal.parts-both-requires-clause-may
parts-both-requires-clause-may g c = split_may c.args.self.now.search.now c.args.at c.requires.split

pub returns-clause-part : goal.returns-clause-part
returns-clause-part g c = c.part_that_holds_start.ensures ∙ ap (λ (both : Node × Node). part_with both c.args.node) c.parts-both.ensures

pub returns-clause-valid : goal.returns-clause-valid
returns-clause-valid g c =
    let s = c.args.self.now.search.now in
    let same = c.part_that_holds_start.ensures ∙ ap (λ (both : Node × Node). part_with both c.args.node) c.parts-both.ensures in
    subst (IsValid (rules s)) (sym same) (part_is_valid s c.is_search.ensures c.args.at c.args.node c.requires.valid c.requires.inside c.requires.split)

pub returns-clause-narrower : goal.returns-clause-narrower
returns-clause-narrower g c =
    let s = c.args.self.now.search.now in
    let same = c.part_that_holds_start.ensures ∙ ap (λ (both : Node × Node). part_with both c.args.node) c.parts-both.ensures in
    subst (λ (m : Node). width m < width c.args.at) (sym same) (part_is_narrower s c.is_search.ensures c.args.at c.args.node c.requires.valid c.requires.inside c.requires.split)
