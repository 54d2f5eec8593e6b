-- A tree that is coarser than that of a search.
use Rattle.std.specs.Prelude.{◌≤◌, All, List}
use Rattle.spec_trees.specs.declared.tree.Node.{Node}
use Rattle.spec_trees.specs.Tree.{IsValid, Rules, leaf_count, leaves}
use Rattle.spec_searches.specs.Found.{rules}
use Rattle.spec_searches.specs.Search.{Search}
use Rattle.spec_stills.specs.declared.still.StillSpan.{StillSpan}
use Rattle.spec_stills.specs.Settled.{leaves_below}
use Rattle.spec_stills.specs.Weights.{IsWeighed}

-- at a node, all leaves of the search's tree lie below those of the other tree, whose weights are enough for them
pub record IsCoarser (s : Search) (xs : List StillSpan) (n : Node) (t : Rules) : Type 0 where
  pub valid : IsValid t n
  pub below : leaf_count (rules s) n ≤ leaves_below s (leaves t n)
  pub weighed : All (IsWeighed s xs) (leaves t n)
