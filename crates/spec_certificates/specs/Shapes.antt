-- The shape of the lines of leaves.
use Rattle.std.specs.Prelude.{◌^◌, ◌<◌, List, [], ◌∷◌}
use Rattle.std.specs.Int.RustNames.{unsigned_abs}
use Rattle.spec_trees.specs.declared.tree.Leaf.{Leaf}

-- times of at most 15 digits, and a depth of at most 2
pub record FitsLine (l : Leaf) : Type 0 where
  pub a : unsigned_abs l.node.a < 10 ^ 15
  pub b : unsigned_abs l.node.b < 10 ^ 15
  pub depth : l.node.depth < 10 ^ 2

abbrev pub AllFit : List Leaf → Type 0
AllFit [] = Unit {0}
AllFit (l ∷ ls) = FitsLine l × AllFit ls
