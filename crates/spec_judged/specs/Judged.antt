-- A search for the events of a function over a tree of nodes, whose verdicts are those of what is found at the nodes, and
-- the leaves that it leaves undecided. Times are whole numbers of a unit of time.
use Rattle.std.specs.Prelude.{◌≡◌, ◌<◌, ◌≤◌, ◌⊎◌, ℕ, ℤ, List, Contains}
use Rattle.spec_intervals.specs.Fraction.{Fraction}
use Rattle.spec_trees.specs.declared.tree.Leaf.{Leaf}
use Rattle.spec_trees.specs.declared.tree.Mark.TheVariants as M
use Rattle.spec_trees.specs.declared.tree.Node.{Node}
use Rattle.spec_trees.specs.declared.tree.Turn.{Turn}
use Rattle.spec_trees.specs.declared.tree.Verdict.TheVariants as V
use Rattle.spec_trees.specs.Tree.{Rules, IsSound, IsValid, leaf_of, width}
use Rattle.spec_events.specs.declared.dir.Dir.{Dir}
use Rattle.spec_events.specs.Functions.{EventsOf, Guard}
use Rattle.spec_events.specs.Soundness.{Evidence, IsEvidence, findings_of, guards_of}
use Rattle.spec_events.specs.Verdict.{Criteria, verdict}

-- the rules of the tree, the function with its guards, the turns that are wanted, the width down to which nodes are split,
-- and what is found at each node
pub record Judged : Type 0 where
  pub rules : Rules
  pub exact : ℤ → Fraction
  pub guards : List Guard
  pub dir : Dir
  pub width : ℕ
  pub evidence : Node → Evidence

-- what is searched for
abbrev pub events : Judged → Turn → ℤ → Type 0
events s = EventsOf s.exact s.dir s.guards

abbrev pub criteria : Judged → Criteria
criteria s = record { dir = s.dir; width = s.width; depth = s.rules.deepest }

-- what is found at a node is true of the function and its guards, and the verdict is the one of what is found
pub record IsJudgedAt (s : Judged) (n : Node) : Type 0 where
  pub evidence : IsEvidence s.exact n (s.evidence n)
  pub guards : guards_of (s.evidence n) ≡ s.guards
  pub follows : s.rules.verdict n ≡ verdict (criteria s) n (findings_of (s.evidence n))

pub record IsJudged (s : Judged) : Type 0 where
  pub sound : IsSound s.rules
  pub some_width : 0 < s.width
  pub at : (n : Node) → IsValid s.rules n → IsJudgedAt s n

-- one of these leaves is left undecided, no wider than the width or as deep as the depth
pub record IsLeftUndecided (s : Judged) (ls : List Leaf) (n : Node) : Type 0 where
  pub leaf : Contains ls (leaf_of n M.Undecided)
  pub valid : IsValid s.rules n
  pub undecided : s.rules.verdict n ≡ V.Undecided
  pub limit : (width n ≤ s.width) ⊎ (n.depth ≡ s.rules.deepest)
