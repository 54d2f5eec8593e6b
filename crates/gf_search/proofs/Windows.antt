-- The leaves of the tree of a search, and those of its eager tree, settled, have the windows of the tree; those of its served
-- tree tell its signs.
use Rattle.std.proofs.Common.{◌≡◌, ◌≤◌, ℕ, Bool, true, false, List, [], sym, ap, ◌∙◌, subst, arith}
use Rattle.std.specs.Prelude.{All, if◌then◌else◌, map}
use Rattle.spec_trees.specs.declared.tree.Leaf.{Leaf}
use Rattle.spec_trees.specs.declared.tree.Node.{Node}
use Rattle.spec_trees.specs.Tree.{Covers, leaf_count, leaves}
use Rattle.spec_trees.specs.Windows.{windows}
use Rattle.spec_searches.specs.Found.{rules}
use Rattle.spec_searches.specs.Search.{Search}
use Rattle.spec_stills.specs.declared.still.StillSpan.{StillSpan}
use Rattle.spec_stills.specs.Still.{IsStill}
use Rattle.spec_stills.specs.Eager.{eager_rules}
use Rattle.spec_stills.specs.ServedTree.{TellTheSame, served_rules}
use Rattle.spec_stills.specs.Settled.{settled, settled_leaves}
use Rattle.still_judge.specs.Order.{are_in_order, in_order_or_none}
use Rattle.gf_search.specs.Wanted.{HaveSigns, HaveWindows}

-- ---- still spans that stand in order
kept_by : (s : Search) (xs : List StillSpan) (ordered : Bool) → All (IsStill s) xs → All (IsStill s) (if ordered then xs else [])
kept_by s xs true stills = stills
kept_by s xs false stills = λ k d below. absurd (omega (arith, below))

pub kept_still : (s : Search) (xs kept : List StillSpan) → kept ≡ in_order_or_none xs → All (IsStill s) xs → All (IsStill s) kept
kept_still s xs kept is stills = subst (All (IsStill s)) (sym is) (kept_by s xs (are_in_order xs) stills)

-- ---- windows
-- and so have those of the eager tree, settled
pub settled_have : (most : ℕ) (s : Search) (n : Node) (ls : List Leaf) (xs : List StillSpan) (found : List Leaf) → windows (settled_leaves s xs n) ≡ windows (leaves (rules s) n)
    → Covers n.a (settled_leaves s xs n) n.b → found ≡ leaves (eager_rules s xs) n → ls ≡ map (settled s n) found → leaf_count (rules s) n ≤ most → HaveWindows most s n ls
settled_have most s n ls xs found windows_same cover found_is same few =
    let all = same ∙ ap (map (settled s n)) found_is in
    record {
      windows = ap windows all ∙ windows_same;
      follow = subst (λ (vs : List Leaf). Covers n.a vs n.b) (sym all) cover;
      few = few;
    }

-- ---- signs
-- the leaves of the served tree tell the signs of the tree
pub served_tell : (most : ℕ) (s : Search) (n : Node) (ls : List Leaf) (xs : List StillSpan) → TellTheSame s n.a (leaves (served_rules s xs) n) (leaves (rules s) n) n.b
    → Covers n.a (leaves (served_rules s xs) n) n.b → ls ≡ leaves (served_rules s xs) n → leaf_count (rules s) n ≤ most → HaveSigns most s n ls
served_tell most s n ls xs same cover is few = record {
  signs = subst (λ (vs : List Leaf). TellTheSame s n.a vs (leaves (rules s) n) n.b) (sym is) same;
  follow = subst (λ (vs : List Leaf). Covers n.a vs n.b) (sym is) cover;
  few = few;
}
