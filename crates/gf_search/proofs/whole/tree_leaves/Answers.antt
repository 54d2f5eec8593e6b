use Rattle.std.proofs.Common.{refl, subst}
use Rattle.spec_trees.specs.Tree.{IsSound}
use Rattle.spec_searches.specs.Found.{rules}
use Rattle.gf_search.proofs.Outcomes.{are_wanted}
use Rattle.gf_search.proofs.whole.tree_leaves.Goals as goal

pub returns-clause-found : goal.returns-clause-found
returns-clause-found g c =
    let s = c.args.tree.now.search.now in
    let n = c.args.tree.now.root in
    let sound = subst IsSound c.args.tree.now.same_rules c.rules_are_sound.ensures in
    are_wanted c.args.most (rules s) s n refl c.leaves_in_manner.result
    (c.leaves_cover_the_node.ensures.cover (rules s) n sound c.args.tree.now.valid_root) c.leaves_in_manner.ensures.leaves c.leaves_in_manner.ensures.few
