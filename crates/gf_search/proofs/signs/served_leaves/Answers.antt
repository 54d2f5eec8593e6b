use Rattle.spec_trees.specs.Tree.{leaves}
use Rattle.spec_stills.specs.ServedTree.{served_rules}
use Rattle.gf_search.proofs.signs.served_leaves.Goals as goal

pub coarse_leaves-requires-clause-coarser : goal.coarse_leaves-requires-clause-coarser
coarse_leaves-requires-clause-coarser g c κs lives =
    let s = c.args.tree.now.search.now in
    let xs = c.args.tree.now.stills.now in
    let n = c.args.tree.now.root in
    let is = c.is_search.ensures in
    let sound = c.served_trees_are_sound.ensures.sound s xs is in
    let valid = c.served_trees_are_sound.ensures.nodes s xs n c.args.tree.now.valid_root in
    record {
      valid = valid;
      below = c.the_tree_has_no_more_leaves_than_lie_below.ensures.served s xs n is c.args.tree.now.still c.args.tree.now.valid_root;
      weighed = c.leaves_weigh_enough.ensures.served s xs (leaves (served_rules s xs) n) is c.args.tree.now.still (c.leaves_cover_the_node.ensures.are_leaves (served_rules s xs) n sound valid);
    }
