-- Nodes that a row may ask about.
use Rattle.std.specs.Prelude.{◌≤◌, ◌≤ℤ◌, ◌<ℤ◌, ℕ}
use Rattle.spec_ephemeris.specs.Ephemeris.{Ephemeris, end_of}
use Rattle.spec_trees.specs.declared.tree.Node.{Node}

-- a node of times of the ephemeris, no deeper than this
pub record IsWithin (e : Ephemeris) (deepest : ℕ) (n : Node) : Type 0 where
  pub from : e.start ≤ℤ n.a
  pub inside : n.a <ℤ n.b
  pub to : n.b ≤ℤ end_of e
  pub depth : n.depth ≤ deepest
