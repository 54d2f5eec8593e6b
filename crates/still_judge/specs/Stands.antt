-- Where a node stands among still spans in order, and what becomes of it in an eager tree.
use Rattle.std.specs.Prelude.{◌≡◌, ◌≤◌, ℕ, Bool, true, false, ◌&&◌, List, length, if◌then◌else◌, int_le, int_lt}
use Rattle.std.specs.List.Sorted.{IsPartitionPoint}
use Rattle.spec_trees.specs.declared.tree.Node.{Node}
use Rattle.spec_trees.specs.declared.tree.Verdict.{Verdict}
use Rattle.spec_trees.specs.declared.tree.Verdict.TheVariants as V
use Rattle.spec_events.specs.Stages.{is_above_limits}
use Rattle.spec_searches.specs.Search.{Search, criteria}
use Rattle.spec_stills.specs.declared.still.StillSpan.{StillSpan}
use Rattle.spec_stills.specs.Still.{is_served}
use Rattle.spec_stills.specs.Eager.{begin_in}
use Rattle.still_judge.specs.declared.standing.Standing.{Standing}
use Rattle.still_judge.specs.declared.standing.Standing.TheVariants.{Begun, Open, Served}
use Rattle.still_judge.specs.Order.{are_in_order}

-- of spans in order, so many begin no later than the node
pub record IsCount (n : Node) (xs : List StillSpan) (count : ℕ) : Type 0 where
  pub order : are_in_order xs ≡ true
  pub within : count ≤ length xs
  pub upto : IsPartitionPoint (λ x. int_le x.from n.a ≡ true) (λ x. int_le x.from n.a ≡ false) xs count

-- the span begins in the node: at its first time or later, and before its last
abbrev pub begins_in : StillSpan → Node → Bool
begins_in x n = int_le n.a x.from && int_lt x.from n.b

-- a span serves the node, or one begins in it that is above the limits of the search, or neither
abbrev pub standing_of : Search → List StillSpan → Node → Standing
standing_of s xs n =
    if is_served s xs n then Served
    else if begin_in xs n && is_above_limits (criteria s) n then Begun
    else Open

-- the verdict of a node with a standing in an eager tree, given that of the search
abbrev pub verdict_at : Standing → Verdict → Verdict
verdict_at Served v = V.Clear
verdict_at Begun v = V.Split
verdict_at Open v = v
