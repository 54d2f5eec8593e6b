-- The tree of a search, and the windows that it finds.
use Rattle.std.specs.Prelude.{◌≡◌, ◌≤◌, ◌⊎◌, List, Contains, ℤ, ◌≤ℤ◌, ◌<ℤ◌}
use Rattle.spec_ephemeris.specs.Ephemeris.{end_of}
use Rattle.spec_trees.specs.declared.tree.Leaf.{Leaf}
use Rattle.spec_trees.specs.declared.tree.Mark.TheVariants as M
use Rattle.spec_trees.specs.declared.tree.Node.{Node}
use Rattle.spec_trees.specs.declared.tree.Verdict.TheVariants as V
use Rattle.spec_trees.specs.declared.window.Window.{Window}
use Rattle.spec_trees.specs.Tree.{Rules, IsValid, leaf_of, leaves, width}
use Rattle.spec_trees.specs.Windows.{windows}
use Rattle.spec_searches.specs.Search.{Search, verdict_of, parts}

-- the nodes within the ephemeris, down to the depth
abbrev pub rules : Search → Rules
rules s = record {
  first = s.view.ephemeris.start;
  last = end_of s.view.ephemeris;
  deepest = s.depth;
  verdict = verdict_of s;
  parts = parts s;
}

-- the times after the first and up to the last
abbrev pub root : ℤ → ℤ → Node
root from upto = record { a = from; b = upto; depth = 0 }

-- a span of times of the ephemeris
pub record IsSpan (s : Search) (first last : ℤ) : Type 0 where
  pub from : s.view.ephemeris.start ≤ℤ first
  pub ordered : first <ℤ last
  pub to : last ≤ℤ end_of s.view.ephemeris

-- the leaves of a span, and their windows
abbrev pub leaves_of : Search → ℤ → ℤ → List Leaf
leaves_of s from upto = leaves (rules s) (root from upto)

abbrev pub windows_of : Search → ℤ → ℤ → List Window
windows_of s from upto = windows (leaves_of s from upto)

-- one of these leaves that is left undecided, no wider than the width or as deep as the depth
pub record IsLeftUndecided (s : Search) (ls : List Leaf) (n : Node) : Type 0 where
  pub leaf : Contains ls (leaf_of n M.Undecided)
  pub valid : IsValid (rules s) n
  pub undecided : verdict_of s n ≡ V.Undecided
  pub limit : (width n ≤ s.width) ⊎ (n.depth ≡ s.depth)
