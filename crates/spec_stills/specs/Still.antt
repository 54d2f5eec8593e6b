-- Still spans: spans of times in which the function has one sign, and in which each node that is no wider than so much is clear;
-- no granule begins in one that has room for wider nodes.
use Rattle.std.specs.Prelude.{◌≡◌, ℕ, ◌<◌, ◌≤◌, ◌+◌, ◌*◌, ◌^◌, Bool, true, false, ◌&&◌, nat_le, List, All, ℤ, pos, ◌+ℤ◌, ◌-ℤ◌, ◌≤ℤ◌, int_le}
use Rattle.std.specs.Int.RustNames.{unsigned_abs}
use Rattle.std.specs.List.{list_any}
use Rattle.spec_intervals.specs.declared.signs.Sign.{Sign}
use Rattle.spec_ephemeris.specs.Ephemeris.{IsBorderIn}
use Rattle.spec_bodies.specs.Views.{columns_of}
use Rattle.spec_trees.specs.declared.cuts.CutRule.{CutRule}
use Rattle.spec_trees.specs.declared.cuts.CutRule.TheVariants.{Half, Third}
use Rattle.spec_trees.specs.declared.tree.Leaf.{Leaf}
use Rattle.spec_trees.specs.declared.tree.Mark.TheVariants as M
use Rattle.spec_trees.specs.declared.tree.Node.{Node}
use Rattle.spec_trees.specs.declared.tree.Verdict.TheVariants.{Clear}
use Rattle.spec_trees.specs.Tree.{IsValid, width}
use Rattle.spec_searches.specs.Found.{rules}
use Rattle.spec_searches.specs.Search.{Search, verdict_of}
use Rattle.spec_bounds.specs.Steady.{sign_at}
use Rattle.spec_stills.specs.declared.still.StillSpan.{StillSpan}

-- a node within it may be wider than its widest
abbrev pub HasWider : StillSpan → Type 0
HasWider x = x.widest < unsigned_abs (x.upto -ℤ x.from)

-- no granule of the columns in use begins in it, unless no node within it is wider than its widest; each valid node within it
-- that is no wider is clear; and the function has its sign at each time of it
pub record IsStill (s : Search) (x : StillSpan) : Type 0 where
  pub no_border : HasWider x → (t : ℤ) → IsBorderIn s.view.ephemeris (columns_of s.view) x.from x.upto t → ⊥
  pub clear : (n : Node) → IsValid (rules s) n → x.from ≤ℤ n.a → n.b ≤ℤ x.upto → width n ≤ x.widest → verdict_of s n ≡ Clear
  pub signs : (t : ℤ) → x.from ≤ℤ t → t ≤ℤ x.upto → sign_at s t ≡ x.sign

-- the one unit from a time to the next, with a sign, for nodes that are no wider than so much
abbrev pub unit_from : ℤ → ℕ → Sign → StillSpan
unit_from t widest sign = record { from = t; upto = t +ℤ pos 1; widest = widest; halvings = 0; sign = sign }

abbrev pub is_half : CutRule → Bool
is_half Half = true
is_half Third = false

-- the node lies within the span
abbrev pub lies_in : StillSpan → Node → Bool
lies_in x n = int_le x.from n.a && int_le n.b x.upto

-- halved as often as the span allows, the node is as narrow as the span asks, and is not as deep as the depth before
abbrev pub is_near_enough : Search → StillSpan → Node → Bool
is_near_enough s x n = nat_le (width n) (2 ^ x.halvings * x.widest) && nat_le (n.depth + x.halvings) s.depth

-- the search halves its nodes, and splits those that are wider than the span asks
abbrev pub is_fine_enough : Search → StillSpan → Bool
is_fine_enough s x = is_half s.cut && nat_le s.width x.widest

-- by the span, all leaves of the node are clear
abbrev pub serves : Search → StillSpan → Node → Bool
serves s x n = lies_in x n && (is_near_enough s x n && is_fine_enough s x)

-- by one of the spans
abbrev pub is_served : Search → List StillSpan → Node → Bool
is_served s xs n = list_any (λ x. serves s x n) xs

-- leaves of which each is clear
abbrev pub AreClear : List Leaf → Type 0
AreClear ls = All (λ l. l.mark ≡ M.Clear) ls
