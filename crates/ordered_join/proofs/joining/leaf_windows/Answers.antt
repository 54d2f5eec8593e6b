use Rattle.std.proofs.Common.{◌≡◌, ◌≤◌, ◌++◌, List, [], length, drop, ◌∙◌, ap, sym, arith}
use Rattle.std.proofs.lemmas.List.{drop_all}
use Rattle.spec_trees.specs.declared.tree.Leaf.{Leaf}
use Rattle.spec_trees.specs.Runs.{joined}
use Rattle.spec_trees.proofs.Runs.{joined_are_windows}
use Rattle.ordered_join.proofs.joining.leaf_windows.Goals as goal

pub returns : goal.returns
returns c =
    let past : length c.args.leaves.now ≤ c.loop-leaf.leaf-index = omega arith in
    let none : drop c.loop-leaf.leaf-index c.args.leaves.now ≡ [] = drop_all c.loop-leaf.leaf-index c.args.leaves.now past in
    c.in_ok-add_run.ensures
    ∙ (sym (c.loop-leaf.invariant ∙ ap (λ (ls : List Leaf). c.loop-leaf.found.items ++ joined c.loop-leaf.run ls) none)
    ∙ joined_are_windows c.args.leaves.now)
