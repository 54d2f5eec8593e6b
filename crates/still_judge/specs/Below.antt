-- Nodes on the way down the tree of a search.
use Rattle.std.specs.Prelude.{◌≡◌, Bool, ◌&&◌, int_le, int_lt, ◌≤ℤ◌, ◌<ℤ◌}
use Rattle.spec_trees.specs.declared.tree.Node.{Node}
use Rattle.spec_searches.specs.Search.{Search}
use Rattle.spec_stills.specs.Settled.{is_cleared}

-- the second node begins in the first: at its first time or later, and before its last
abbrev pub holds_begin : Node → Node → Bool
holds_begin m n = int_le m.a n.a && int_lt n.a m.b

-- a node within another, whose tree tells of each node that begins in it whether it lies in a clear leaf of the other's
pub record IsBelow (s : Search) (at low : Node) : Type 0 where
  pub from : at.a ≤ℤ low.a
  pub upto : low.b ≤ℤ at.b
  pub same : (n : Node) → n.a <ℤ n.b → low.a ≤ℤ n.a → n.a <ℤ low.b → is_cleared s at n ≡ is_cleared s low n
