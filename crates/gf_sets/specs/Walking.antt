-- A walk over leaves that gives each time its sign.
use Rattle.std.specs.Prelude.{◌≡◌, List, [], ◌∷◌, ℤ, ◌≤ℤ◌, ◌<ℤ◌}
use Rattle.spec_intervals.specs.declared.signs.Sign.{Sign}
use Rattle.spec_trees.specs.declared.tree.Leaf.{Leaf}
use Rattle.spec_trees.specs.Tree.{Covers}
use Rattle.spec_sets.specs.Pairs.{AreOf}
use Rattle.spec_sets.specs.Signs.{sign_among, sign_of_leaves}
use Rattle.spec_sets.specs.Spans.{Span}

-- where leaves begin that end at a time
abbrev pub begins : List Leaf → ℤ → ℤ
begins [] upto = upto
begins (l ∷ later) upto = l.node.a

-- the two sets have the times up to where the rest of the leaves begins
pub record IsWalked (point : ℤ → Sign) (from upto : ℤ) (leaves rest : List Leaf) (surely perhaps : List Span) : Type 0 where
  pub ordered : from ≤ℤ begins rest upto
  pub covers : Covers (begins rest upto) rest upto
  pub same : (t : ℤ) → begins rest upto <ℤ t → sign_among point leaves t ≡ sign_among point rest t
  pub sets : AreOf (sign_of_leaves point from leaves) from (begins rest upto) surely perhaps
