-- The time at which a span is cut by a rule, the spans that can be cut, and the halves of a node.
use Rattle.std.specs.Prelude.{◌^◌, Bool, ℤ, pos, neg_ℤ, ◌+ℤ◌, ◌-ℤ◌, ◌<ℤ◌, ◌≤ℤ◌, int_div, int_lt}
use Rattle.std.specs.Int.{int_max}
use Rattle.spec_trees.specs.declared.cuts.CutRule.{CutRule}
use Rattle.spec_trees.specs.declared.cuts.CutRule.TheVariants.{Half, Third}
use Rattle.spec_trees.specs.declared.tree.Node.{Node}

-- the cut of [a, b]: the middle rounded down, or the first third rounded down but past a
abbrev pub cut_of : CutRule → ℤ → ℤ → ℤ
cut_of Half a b = a +ℤ int_div (b -ℤ a) (pos 2)
cut_of Third a b = a +ℤ int_max (pos 1) (int_div (b -ℤ a) (pos 3))

-- [a, b] is wider than one unit of time, so that some time lies strictly inside, and its ends are within 2^50
pub record CanCut (a b : ℤ) : Type 0 where
  pub wide : (a +ℤ pos 1) <ℤ b
  pub low : neg_ℤ (pos (2 ^ 50)) ≤ℤ a
  pub high : b ≤ℤ pos (2 ^ 50)

-- wider than one unit of time
abbrev pub is_wide : Node → Bool
is_wide n = int_lt (pos 1) (n.b -ℤ n.a)

abbrev pub middle : Node → ℤ
middle n = n.a +ℤ int_div (n.b -ℤ n.a) (pos 2)

-- the parts of a node that is cut in its middle, at the depth of the node
abbrev pub halves : Node → Node × Node
halves n = (record { a = n.a; b = middle n; depth = n.depth }, record { a = middle n; b = n.b; depth = n.depth })
