-- Searches whose width is one tick and that leave nothing undecided find the same windows, wherever spans are cut.
use Rattle.std.proofs.Common.{◌≡◌, ℕ, ◌&&◌, false, List, [], ◌∷◌, ◌++◌, ℤ, pos, ◌+ℤ◌, int_le, refl, sym, ap, ◌∙◌, subst, arith}
use Rattle.std.proofs.lemmas.Int.{ints}
use Rattle.std.proofs.lemmas.List.Elements.{All-append, All-head, All-tail}
use Rattle.spec_trees.specs.declared.cuts.CutRule.{CutRule}
use Rattle.spec_trees.specs.declared.tree.Leaf.{Leaf}
use Rattle.spec_trees.specs.declared.window.Window.{Window}
use Rattle.spec_trees.specs.Tree.{AreLeaves, Covers}
use Rattle.spec_trees.specs.Windows.{windows}
use Rattle.spec_searches.specs.Search.{IsSearch, Search, events}
use Rattle.spec_searches.specs.Found.{IsSpan, leaves_of, rules, windows_of}
use Rattle.spec_spans.specs.Joins.{AreDecided, goes_on, is_open, joined, met}
use Rattle.spec_spans.specs.Searches.{limited}
use Rattle.spec_spans.proofs.Neighbours.{are_leaves, are_leaves_both, cover, cover_both, joined_windows}
use Rattle.spec_spans.proofs.Ticks.{decided_ticks, one_list, one_way}

abbrev IsDecided : Window → Type 0
IsDecided w = is_open w.holds ≡ false

-- what is not undecided does not go on
met_decided : (w : Window) (vs : List Window) → is_open w.holds ≡ false → met w vs ≡ w ∷ vs
met_decided w [] e = refl
met_decided w (v ∷ vs) e =
    let not_on : goes_on w v ≡ false = ap (λ b. b && (is_open v.holds && int_le v.first (w.last +ℤ pos 1))) e in
    rw not_on refl

joined_decided : (ws vs : List Window) → AreDecided ws → joined ws vs ≡ ws ++ vs
joined_decided [] vs are = refl
joined_decided (w ∷ []) vs are = met_decided w vs (All-head IsDecided w [] are)
joined_decided (w ∷ x ∷ ws) vs are = ap (λ l. w ∷ l) (joined_decided (x ∷ ws) vs (All-tail IsDecided w (x ∷ ws) are))

module _ (s : Search) (is : IsSearch s) (of_one : s.width ≡ 1) where
  pub same_windows : (first last : ℤ) (ls ms : List Leaf) → Covers first ls last → AreLeaves (rules s) ls → AreDecided (windows ls)
      → Covers first ms last → AreLeaves (rules s) ms → AreDecided (windows ms) → windows ls ≡ windows ms
  same_windows first last ls ms c are d e others f =
      one_list (events s) (one_way s) first last (windows ls) (windows ms) (decided_ticks s is of_one first last ls c are d) (decided_ticks s is of_one first last ms e others f)

  pub windows_of_parts : (first time last : ℤ) → IsSpan s first time → IsSpan s time last
      → AreDecided (windows_of s first last) → AreDecided (windows_of s first time) → AreDecided (windows_of s time last)
      → windows_of s first last ≡ windows_of s first time ++ windows_of s time last
  windows_of_parts first time last left right d f g =
      let before = left.ordered in
      let after = right.ordered in
      let whole : IsSpan s first last = record { from = left.from; ordered = omega (arith, ints, before, after); to = right.to } in
      let both = joined_windows s is first time last left right ∙ joined_decided (windows_of s first time) (windows_of s time last) f in
      let decided = subst AreDecided (sym both) (All-append IsDecided (windows_of s first time) (windows_of s time last) f g) in
      same_windows first last (leaves_of s first last) (leaves_of s first time ++ leaves_of s time last)
      (cover s is first last whole) (are_leaves s is first last whole) d
      (cover_both s is first time last left right) (are_leaves_both s is first time last left right) decided
      ∙ both

  pub windows_limited : (depth : ℕ) (rule : CutRule) (first last : ℤ) → IsSpan s first last
      → AreDecided (windows_of s first last) → AreDecided (windows_of (limited depth rule s) first last)
      → windows_of s first last ≡ windows_of (limited depth rule s) first last
  windows_limited depth rule first last span d f =
      let other : Search = limited depth rule s in
      let is_other : IsSearch other = record { view = is.view; formulas = is.formulas; some_width = is.some_width } in
      let span_other : IsSpan other first last = record { from = span.from; ordered = span.ordered; to = span.to } in
      one_list (events s) (one_way s) first last (windows_of s first last) (windows_of other first last)
      (decided_ticks s is of_one first last (leaves_of s first last) (cover s is first last span) (are_leaves s is first last span) d)
      (decided_ticks other is_other of_one first last (leaves_of other first last) (cover other is_other first last span_other) (are_leaves other is_other first last span_other) f)
