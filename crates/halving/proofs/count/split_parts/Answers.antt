use Rattle.std.proofs.Common.{◌≡◌, ◌+◌, sym, subst}
use Rattle.spec_trees.specs.declared.tree.Node.{Node}
use Rattle.spec_trees.specs.Tree.{leaf_count}
use Rattle.halving.proofs.Counting.{split_count}
use Rattle.halving.proofs.count.split_parts.Goals as goal

pub returns-clause-leaves : goal.returns-clause-leaves
returns-clause-leaves g c =
    let t = g.J.Judge.rules c.args.judge.now in
    subst (λ (parts : Node × Node). leaf_count t c.args.node ≡ leaf_count t parts.0 + leaf_count t parts.1) (sym c.cut.ensures.parts)
    (split_count t c.rules_are_sound.ensures c.args.node c.requires.valid c.requires.split)
