-- Nodes that are dealt to workers, from left to right, each with its verdict.
use Rattle.std.specs.Prelude.{◌≡◌, ℕ, ◌<◌, ◌≤◌, List, length, All, slice_index_or, Result, Err, IfOk, Vec}
use Rattle.std.specs.List.{flat_map}
use Rattle.std.specs.declared.alloc.Global.{Global}
use Rattle.spec_trees.specs.declared.tree.Leaf.{Leaf}
use Rattle.spec_trees.specs.declared.tree.Node.{Node}
use Rattle.spec_trees.specs.declared.tree.Verdict.{Verdict}
use Rattle.spec_trees.specs.declared.tree.Verdict.TheVariants as V
use Rattle.spec_trees.specs.Tree.{Rules, IsValid, leaves, width}
use Rattle.halving.specs.declared.run.RunError.{RunError}
use Rattle.halving.specs.declared.run.RunError.TheVariants.{TooMany}
use Rattle.halving.specs.declared.shares.Share.{Share}

-- a valid node with its verdict
pub record IsJudged (t : Rules) (s : Share) : Type 0 where
  pub valid : IsValid t s.node
  pub verdict : s.verdict ≡ t.verdict s.node

abbrev pub AreJudged : Rules → List Share → Type 0
AreJudged t shares = All (IsJudged t) shares

-- the leaves of all shares, from left to right
abbrev pub leaves_of : Rules → List Share → List Leaf
leaves_of t shares = flat_map (λ s. leaves t s.node) shares

-- the width of a node that is to be split; of any other, 0
abbrev pub split_width_of : Verdict → Node → ℕ
split_width_of V.Clear n = 0
split_width_of (V.One turn) n = 0
split_width_of V.Split n = width n
split_width_of V.Undecided n = 0

abbrev pub split_width : Share → ℕ
split_width s = split_width_of s.verdict s.node

-- no share is to be split
abbrev pub NoneIsSplit : List Share → Type 0
NoneIsSplit shares = All (λ s. split_width s ≡ 0) shares

-- a share that is to be split, no narrower than any other and wider than each before it
pub record IsWidest (shares : List Share) (place : ℕ) : Type 0 where
  pub inside : place < length shares
  pub split : (d : Share) → 0 < split_width (slice_index_or shares place d)
  pub widest : (k : ℕ) (d : Share) → k < length shares → split_width (slice_index_or shares k d) ≤ split_width (slice_index_or shares place d)
  pub first : (k : ℕ) (d : Share) → k < place → split_width (slice_index_or shares k d) < split_width (slice_index_or shares place d)

-- so many shares, or fewer where none can be split
pub record AreEnough (workers : ℕ) (shares : List Share) : Type 0 where
  pub some : 0 < length shares
  pub most : length shares ≤ workers
  pub all_cut : length shares < workers → NoneIsSplit shares

-- what a walk gives whose leaves are these: they, where they are within the limit; there are more where it says so
pub record IsWalk (ls : List Leaf) (limit : ℕ) (result : Result (Vec Leaf Global) RunError) : Type 0 where
  pub leaves : IfOk result (λ found. found.items ≡ ls)
  pub few : IfOk result (λ found. length found.items ≤ limit)
  pub too_many : result ≡ Err TooMany → limit < length ls
