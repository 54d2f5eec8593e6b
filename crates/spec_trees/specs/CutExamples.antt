-- The rules of a judge that splits what is wider than two units, for worked values and tests.
use Rattle.std.specs.Prelude.{◌+◌, List, [], ◌∷◌, ℕ, Bool, ◌&&◌, nat_lt, ℤ, pos, ◌-ℤ◌, int_lt, if◌then◌else◌}
use Rattle.spec_trees.specs.declared.cuts.CutRule.{CutRule}
use Rattle.spec_trees.specs.declared.tree.Leaf.{Leaf}
use Rattle.spec_trees.specs.declared.tree.Mark.TheVariants as M
use Rattle.spec_trees.specs.declared.tree.Node.{Node}
use Rattle.spec_trees.specs.declared.tree.Verdict.TheVariants.{Clear, Split}
use Rattle.spec_trees.specs.Cuts.{cut_of}
use Rattle.spec_trees.specs.Tree.{Rules, leaf_of}

abbrev pub wider_than_two : Node → Bool
wider_than_two n = int_lt (pos 2) (n.b -ℤ n.a) && nat_lt n.depth 100

-- the two parts of a node that is cut at a time, one deeper
abbrev pub parts_at : ℤ → Node → Node × Node
parts_at time n = (record { a = n.a; b = time; depth = n.depth + 1 }, record { a = time; b = n.b; depth = n.depth + 1 })

abbrev pub pairs : CutRule → Rules
pairs rule = record {
  first = pos 0;
  last = pos 8;
  deepest = 100;
  verdict = λ n. if wider_than_two n then Split else Clear;
  parts = λ n. parts_at (cut_of rule n.a n.b) n;
}

-- a clear leaf at a depth
abbrev pub clear_at : ℕ → ℤ → ℤ → Leaf
clear_at depth a b = leaf_of (record { a = a; b = b; depth = depth }) M.Clear

-- clear leaves that follow one another from a time, by the depth and the end of each
abbrev pub clear_from : ℤ → List (ℕ × ℤ) → List Leaf
clear_from a [] = []
clear_from a ((depth, b) ∷ others) = clear_at depth a b ∷ clear_from b others

-- the leaves of eight units that are halved
abbrev pub halved : List Leaf
halved = clear_from (pos 0) ((2, pos 2) ∷ (2, pos 4) ∷ (2, pos 6) ∷ (2, pos 8) ∷ [])

-- and of eight units that are cut at their first third
abbrev pub cut_at_thirds : List Leaf
cut_at_thirds = clear_from (pos 0) ((1, pos 2) ∷ (2, pos 4) ∷ (3, pos 5) ∷ (4, pos 6) ∷ (4, pos 8) ∷ [])
