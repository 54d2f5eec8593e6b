use Rattle.spec_stills.specs.ServedTree.{served_rules}
use Rattle.gf_search.specs.declared.wanted.Wanted.TheVariants.{Signs}
use Rattle.gf_search.proofs.Windows.{served_tell}
use Rattle.gf_search.proofs.signs.leaves_with_signs.Goals as goal

pub returns-in-Ok-clause-signs : goal.returns-in-Ok-clause-signs
returns-in-Ok-clause-signs g c =
    let s = c.args.tree.now.search.now in
    let xs = c.args.tree.now.stills.now in
    let n = c.args.tree.now.root in
    let is = c.is_search.ensures in
    served_tell c.args.most s n c.in-Ok.found.items xs
    (c.served_trees_tell_the_same.ensures s xs n is c.args.tree.now.still c.args.tree.now.valid_root)
    (c.leaves_cover_the_node.ensures.cover (served_rules s xs) n (c.served_trees_are_sound.ensures.sound s xs is) (c.served_trees_are_sound.ensures.nodes s xs n c.args.tree.now.valid_root))
    c.in-Ok.ensures.leaves c.in-Ok.ensures.few

pub returns-clause-signs : goal.returns-clause-signs
returns-clause-signs g c = c.tree_leaves.ensures.found Signs
