use Rattle.std.proofs.Common.{List, All, ◌≤◌, sym, subst, ◌∙◌, arith}
use Rattle.spec_trees.specs.declared.tree.Leaf.{Leaf}
use Rattle.spec_trees.specs.Tree.{leaf_count}
use Rattle.spec_searches.specs.Found.{rules}
use Rattle.spec_stills.specs.Settled.{leaves_below}
use Rattle.spec_stills.specs.Weights.{IsWeighed}
use Rattle.gf_search.proofs.coarse.coarse_leaves.Goals as goal

pub are_few_leaves_below-requires-clause-weighed : goal.are_few_leaves_below-requires-clause-weighed
are_few_leaves_below-requires-clause-weighed g c κs lives =
    subst (λ (ls : List Leaf). All (IsWeighed c.args.tree.now.search.now c.args.tree.now.stills.now) ls) (sym (c.deref.ensures.value ∙ c.in-Ok.ensures.leaves)) c.requires.coarser.weighed

pub returns-then-are_few_leaves_below-clause-few : goal.returns-then-are_few_leaves_below-clause-few
returns-then-are_few_leaves_below-clause-few g c =
    let s = c.args.tree.now.search.now in
    let below = subst (λ (ls : List Leaf). leaf_count (rules s) c.args.tree.now.root ≤ leaves_below s ls) (sym (c.deref.ensures.value ∙ c.in-Ok.ensures.leaves)) c.requires.coarser.below in
    let few = c.are_few_leaves_below.ensures c.if-are_few_leaves_below.true in
    omega (arith, below, few)
