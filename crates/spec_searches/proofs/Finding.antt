-- The windows that a search finds are those of its events.
use Rattle.std.proofs.Common.{◌≡◌, ◌≤◌, ◌⊎◌, inl, inr, List, Some, ℤ, refl, ap, ◌∙◌, subst, arith}
use Rattle.std.proofs.lemmas.List.Elements.{All-contains_itself}
use Rattle.std.specs.Prelude.{Contains}
use Rattle.spec_intervals.specs.Fraction.{Fraction}
use Rattle.spec_expressions.specs.Term.{exact_of}
use Rattle.spec_bodies.specs.Views.{exact_state}
use Rattle.spec_trees.specs.declared.tree.Leaf.{Leaf}
use Rattle.spec_trees.specs.declared.tree.Mark.{Mark}
use Rattle.spec_trees.specs.declared.tree.Mark.TheVariants as M
use Rattle.spec_trees.specs.declared.tree.Node.{Node}
use Rattle.spec_trees.specs.declared.tree.Turn.{Turn}
use Rattle.spec_trees.specs.declared.tree.Verdict.{Verdict}
use Rattle.spec_trees.specs.declared.tree.Verdict.TheVariants.{Clear, One, Undecided}
use Rattle.spec_trees.specs.declared.window.Holds.TheVariants.{Certain}
use Rattle.spec_trees.specs.Tree.{AreLeaves, Covers, IsLeaf, IsValid, leaf_of, leaves, mark_of, width}
use Rattle.spec_trees.specs.Windows.{window_of, windows}
use Rattle.spec_trees.proofs.Covering.{leaves_are, leaves_cover}
use Rattle.spec_events.specs.Events.{AreWindows, HasNoEvent, HoldsOne}
use Rattle.spec_events.specs.Functions.{EventsOf, Guard, GuardsHold, IsNotNegative}
use Rattle.spec_events.specs.Marks.{AreRightlyMarked, IsRightMark}
use Rattle.spec_events.specs.Soundness.{findings_of, guards_of}
use Rattle.spec_events.proofs.Evidence.{are_sound, decide}
use Rattle.spec_events.proofs.Judging.{verdict_clear, verdict_one}
use Rattle.spec_events.proofs.Limits.{undecided_at_limit}
use Rattle.spec_events.proofs.Windowing.{windows_are}
use Rattle.spec_searches.specs.Search.{Search, IsSearch, criteria, events, evidence_at, verdict_of}
use Rattle.spec_searches.specs.Found.{IsLeftUndecided, IsSpan, leaves_of, root, rules, windows_of}
use Rattle.spec_searches.proofs.Evidence.{guards_are, is_evidence}
use Rattle.spec_searches.proofs.Parts.{root_is_valid, rules_are_sound}

module _ (s : Search) (is : IsSearch s) where
  abbrev exact : ℤ → Fraction
  exact = exact_of (exact_state s.view) s.event.function

  module _ (n : Node) (valid : IsValid (rules s) n) where
    pub clear_holds_none : verdict_of s n ≡ Clear → HasNoEvent (events s) n.a n.b
    unfolding verdict_of
    clear_holds_none e =
        subst (λ (gs : List Guard). HasNoEvent (EventsOf exact s.event.dir gs) n.a n.b) (guards_are s n)
        (verdict_clear (IsNotNegative exact) (GuardsHold (guards_of (evidence_at s n))) (decide exact) (criteria s) n (findings_of (evidence_at s n)) (are_sound exact n (evidence_at s n) (is_evidence s is n valid)) e)

    pub one_holds_one : (turn : Turn) → verdict_of s n ≡ One turn → HoldsOne (events s) turn (window_of n (Certain turn))
    unfolding verdict_of
    one_holds_one turn e =
        subst (λ (gs : List Guard). HoldsOne (EventsOf exact s.event.dir gs) turn (window_of n (Certain turn))) (guards_are s n)
        (verdict_one (IsNotNegative exact) (GuardsHold (guards_of (evidence_at s n))) (decide exact) (criteria s) n (findings_of (evidence_at s n)) (are_sound exact n (evidence_at s n) (is_evidence s is n valid)) turn e)

    limit_is : verdict_of s n ≡ Undecided → (width n ≤ s.width) ⊎ (n.depth ≡ s.depth)
    unfolding verdict_of
    limit_is e = by (undecided_at_limit (criteria s) n (findings_of (evidence_at s n)) valid.inside is.some_width e) valid.depth
      where
        by : (width n ≤ s.width) ⊎ (s.depth ≤ n.depth) → n.depth ≤ s.depth → (width n ≤ s.width) ⊎ (n.depth ≡ s.depth)
        by (inl narrow) few = inl narrow
        by (inr deep) few = inr (omega (arith, deep, few))

    module _ (ls : List Leaf) where
      abbrev IsAmong : Mark → Type 0
      IsAmong m = Contains ls (leaf_of n m)

      undecided_is_left : verdict_of s n ≡ Undecided → IsAmong M.Undecided → IsLeftUndecided s ls n
      undecided_is_left e among = record { leaf = among; valid = valid; undecided = e; limit = limit_is e }

      is_right : (m : Mark) → mark_of (verdict_of s n) ≡ Some m → IsAmong m → IsRightMark (events s) (IsLeftUndecided s ls) n m
      is_right m marked among = by (verdict_of s n) refl m marked among
        where
          by : (v : Verdict) → verdict_of s n ≡ v → (m : Mark) → mark_of v ≡ Some m → IsAmong m → IsRightMark (events s) (IsLeftUndecided s ls) n m
          by Clear e M.Clear k among = clear_holds_none e
          by (One turn) e (M.One other) k among = let same : turn ≡ other = cc in one_holds_one other (e ∙ ap One same)
          by Undecided e M.Undecided k among = undecided_is_left e among
          by v e m k among = absurd (cc)

  leaf_is_right : (ls : List Leaf) (l : Leaf) → IsLeaf (rules s) l → Contains ls l → IsRightMark (events s) (IsLeftUndecided s ls) l.node l.mark
  leaf_is_right ls l leaf among = is_right l.node leaf.valid ls l.mark leaf.marked among

  -- ---- any leaves
  pub are_right : (ls : List Leaf) → AreLeaves (rules s) ls → AreRightlyMarked (events s) (IsLeftUndecided s ls) ls
  are_right ls are = λ k d within. leaf_is_right ls _ (are k d within) (All-contains_itself ls k d within)

  pub windows_of_leaves : (first last : ℤ) (ls : List Leaf) → Covers first ls last → AreLeaves (rules s) ls → AreWindows (events s) (IsLeftUndecided s ls) first last (windows ls)
  windows_of_leaves first last ls cover are = windows_are (events s) (IsLeftUndecided s ls) first last ls cover (are_right ls are)

  -- ---- those of the tree
  pub leaves_are_right : (n : Node) → IsValid (rules s) n → AreRightlyMarked (events s) (IsLeftUndecided s (leaves (rules s) n)) (leaves (rules s) n)
  leaves_are_right n valid = are_right (leaves (rules s) n) (leaves_are (rules s) (rules_are_sound s is.view) n valid)

  pub windows_are_found : (first last : ℤ) → IsSpan s first last → AreWindows (events s) (IsLeftUndecided s (leaves_of s first last)) first last (windows_of s first last)
  windows_are_found first last span =
      let valid = root_is_valid s is.view first last span in
      windows_of_leaves first last (leaves_of s first last) (leaves_cover (rules s) (rules_are_sound s is.view) (root first last) valid)
      (leaves_are (rules s) (rules_are_sound s is.view) (root first last) valid)
