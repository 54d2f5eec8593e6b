use Rattle.std.proofs.Common.{◌∙◌, refl, sym, ap}
use Rattle.spec_trees.specs.declared.tree.Node.{Node}
use Rattle.spec_trees.specs.declared.tree.Mark.TheVariants as M
use Rattle.spec_trees.specs.Tree.{mark_of}
use Rattle.spec_stills.specs.Settled.{is_cleared}
use Rattle.spec_stills.proofs.Descending.{at_clear, at_other, at_split}
use Rattle.still_judge.proofs.span_judge.StillJudge.+lies_in_clear_leaf.Goals as goal

pub part_towards-requires-clause-split : goal.part_towards-requires-clause-split
part_towards-requires-clause-split t g c κs within = sym c.verdict.ensures ∙ c.in-Split.is

pub returns-in-Clear : goal.returns-in-Clear
returns-in-Clear t g c =
    let j = c.args.self.now in
    let clear = sym c.verdict.ensures ∙ c.in-Clear.is in
    c.contains_node.ensures ∙ sym (at_clear j.search.now c.is_search.ensures c.args.at c.args.node c.requires.valid clear)

pub returns-in-One : goal.returns-in-One
returns-in-One t g c =
    let j = c.args.self.now in
    let one = sym c.verdict.ensures ∙ c.in-One.is in
    sym (at_other j.search.now c.is_search.ensures c.args.at c.args.node c.requires.valid (M.One _) refl (ap mark_of one))

pub returns-in-Split : goal.returns-in-Split
returns-in-Split t g c =
    let j = c.args.self.now in
    let split = sym c.verdict.ensures ∙ c.in-Split.is in
    c.lies_in_clear_leaf.ensures
    ∙ ap (λ (m : Node). is_cleared j.search.now m c.args.node) c.part_towards.ensures.part
    ∙ sym (at_split j.search.now c.is_search.ensures c.args.at c.args.node c.requires.valid c.requires.inside split)

pub returns-in-Undecided : goal.returns-in-Undecided
returns-in-Undecided t g c =
    let j = c.args.self.now in
    let undecided = sym c.verdict.ensures ∙ c.in-Undecided.is in
    sym (at_other j.search.now c.is_search.ensures c.args.at c.args.node c.requires.valid M.Undecided refl (ap mark_of undecided))
