use Rattle.std.proofs.Common.{List, ◌∙◌, ap, sym, subst}
use Rattle.std.specs.Prelude.{map}
use Rattle.spec_trees.specs.declared.tree.Leaf.{Leaf}
use Rattle.spec_trees.specs.Tree.{Covers, IsValid}
use Rattle.spec_searches.specs.Found.{rules}
use Rattle.spec_searches.specs.Search.{Search}
use Rattle.spec_stills.specs.Eager.{eager_rules}
use Rattle.spec_stills.specs.Settled.{settled}
use Rattle.spec_outcomes.proofs.Following.{all_have_time}
use Rattle.gf_search.specs.declared.wanted.Wanted.TheVariants.{Windows}
use Rattle.gf_search.proofs.Windows.{settled_have}
use Rattle.gf_search.proofs.eager.leaves_with_windows.Goals as goal

pub settled_leaves-requires-clause-valid : goal.settled_leaves-requires-clause-valid
settled_leaves-requires-clause-valid g c κs lives = subst (λ (s : Search). IsValid (rules s) c.args.tree.now.root) (sym c.new-eager.ensures.search) c.args.tree.now.valid_root

pub settled_leaves-requires-clause-time : goal.settled_leaves-requires-clause-time
settled_leaves-requires-clause-time g c κs lives =
    let s = c.args.tree.now.search.now in
    let xs = c.args.tree.now.stills.now in
    let n = c.args.tree.now.root in
    let cover = c.leaves_cover_the_node.ensures.cover (eager_rules s xs) n (c.eager_trees_are_sound.ensures.sound s xs c.is_search.ensures) (c.eager_trees_are_sound.ensures.nodes s xs n c.args.tree.now.valid_root) in
    all_have_time _ _ c.in-Ok.found.items (subst (λ (ls : List Leaf). Covers n.a ls n.b) (sym c.in-Ok.ensures.leaves) cover)

pub returns-in-Ok-clause-windows : goal.returns-in-Ok-clause-windows
returns-in-Ok-clause-windows g c =
    let s = c.args.tree.now.search.now in
    let xs = c.args.tree.now.stills.now in
    let n = c.args.tree.now.root in
    let is = c.is_search.ensures in
    settled_have c.args.most s n c.settled_leaves.result.items xs c.in-Ok.found.items
    (c.settled_leaves_have_the_same_windows.ensures.windows s xs n is c.args.tree.now.still c.args.tree.now.valid_root)
    (c.settled_leaves_have_the_same_windows.ensures.follow s xs n is c.args.tree.now.valid_root)
    c.in-Ok.ensures.leaves (c.settled_leaves.ensures ∙ ap (λ (s : Search). map (settled s n) c.in-Ok.found.items) c.new-eager.ensures.search) c.in-Ok.ensures.few

pub returns-clause-windows : goal.returns-clause-windows
returns-clause-windows g c = c.tree_leaves.ensures.found Windows
