-- The marks of the leaves of a judged search are right, and the windows of leaves that cover a span are those of its events.
use Rattle.std.proofs.Common.{◌≡◌, ◌≤◌, ◌⊎◌, inl, inr, List, Some, ℤ, refl, ap, ◌∙◌, sym, subst, arith}
use Rattle.std.specs.Prelude.{Contains}
use Rattle.std.proofs.lemmas.List.Elements.{All-contains_itself}
use Rattle.spec_trees.specs.declared.tree.Leaf.{Leaf}
use Rattle.spec_trees.specs.declared.tree.Mark.{Mark}
use Rattle.spec_trees.specs.declared.tree.Mark.TheVariants as M
use Rattle.spec_trees.specs.declared.tree.Node.{Node}
use Rattle.spec_trees.specs.declared.tree.Turn.{Turn}
use Rattle.spec_trees.specs.declared.tree.Verdict.{Verdict}
use Rattle.spec_trees.specs.declared.tree.Verdict.TheVariants.{Clear, One, Undecided}
use Rattle.spec_trees.specs.declared.window.Holds.TheVariants.{Certain}
use Rattle.spec_trees.specs.Tree.{AreLeaves, Covers, IsLeaf, IsValid, leaf_of, leaves, mark_of, width}
use Rattle.spec_trees.specs.Windows.{window_of, windows}
use Rattle.spec_trees.proofs.Covering.{leaves_are, leaves_cover}
use Rattle.spec_events.specs.Events.{AreWindows, HasNoEvent, HoldsOne}
use Rattle.spec_events.specs.Functions.{EventsOf, Guard, GuardsHold, IsNotNegative}
use Rattle.spec_events.specs.Marks.{AreRightlyMarked, IsRightMark}
use Rattle.spec_events.specs.Soundness.{findings_of, guards_of}
use Rattle.spec_events.proofs.Evidence.{are_sound, decide}
use Rattle.spec_events.proofs.Judging.{verdict_clear, verdict_one}
use Rattle.spec_events.proofs.Limits.{undecided_at_limit}
use Rattle.spec_events.proofs.Windowing.{windows_are}
use Rattle.spec_judged.specs.Judged.{Judged, IsJudged, IsJudgedAt, IsLeftUndecided, criteria, events}

module _ (s : Judged) (is : IsJudged s) where
  module _ (n : Node) (valid : IsValid s.rules n) where
    here : IsJudgedAt s n
    here = is.at n valid

    pub clear_holds_none : s.rules.verdict n ≡ Clear → HasNoEvent (events s) n.a n.b
    clear_holds_none e =
        subst (λ (gs : List Guard). HasNoEvent (EventsOf s.exact s.dir gs) n.a n.b) here.guards
        (verdict_clear (IsNotNegative s.exact) (GuardsHold (guards_of (s.evidence n))) (decide s.exact) (criteria s) n (findings_of (s.evidence n))
        (are_sound s.exact n (s.evidence n) here.evidence) (sym here.follows ∙ e))

    pub one_holds_one : (turn : Turn) → s.rules.verdict n ≡ One turn → HoldsOne (events s) turn (window_of n (Certain turn))
    one_holds_one turn e =
        subst (λ (gs : List Guard). HoldsOne (EventsOf s.exact s.dir gs) turn (window_of n (Certain turn))) here.guards
        (verdict_one (IsNotNegative s.exact) (GuardsHold (guards_of (s.evidence n))) (decide s.exact) (criteria s) n (findings_of (s.evidence n))
        (are_sound s.exact n (s.evidence n) here.evidence) turn (sym here.follows ∙ e))

    limit_is : s.rules.verdict n ≡ Undecided → (width n ≤ s.width) ⊎ (n.depth ≡ s.rules.deepest)
    limit_is e = by (undecided_at_limit (criteria s) n (findings_of (s.evidence n)) valid.inside is.some_width (sym here.follows ∙ e)) valid.depth
      where
        by : (width n ≤ s.width) ⊎ (s.rules.deepest ≤ n.depth) → n.depth ≤ s.rules.deepest → (width n ≤ s.width) ⊎ (n.depth ≡ s.rules.deepest)
        by (inl narrow) few = inl narrow
        by (inr deep) few = inr (omega (arith, deep, few))

    is_right : (ls : List Leaf) (m : Mark) → mark_of (s.rules.verdict n) ≡ Some m → Contains ls (leaf_of n m) → IsRightMark (events s) (IsLeftUndecided s ls) n m
    is_right ls m marked among = by (s.rules.verdict n) refl m marked among
      where
        by : (v : Verdict) → s.rules.verdict n ≡ v → (m : Mark) → mark_of v ≡ Some m → Contains ls (leaf_of n m) → IsRightMark (events s) (IsLeftUndecided s ls) n m
        by Clear e M.Clear k among = clear_holds_none e
        by (One turn) e (M.One other) k among = let same : turn ≡ other = cc in one_holds_one other (e ∙ ap One same)
        by Undecided e M.Undecided k among = record { leaf = among; valid = valid; undecided = e; limit = limit_is e }
        by v e m k among = absurd (cc)

  leaf_is_right : (ls : List Leaf) (l : Leaf) → IsLeaf s.rules l → Contains ls l → IsRightMark (events s) (IsLeftUndecided s ls) l.node l.mark
  leaf_is_right ls l leaf among = is_right l.node leaf.valid ls l.mark leaf.marked among

  pub leaves_are_right : (ls : List Leaf) → AreLeaves s.rules ls → AreRightlyMarked (events s) (IsLeftUndecided s ls) ls
  leaves_are_right ls are = λ k d within. leaf_is_right ls _ (are k d within) (All-contains_itself ls k d within)

  pub windows_of_leaves : (a b : ℤ) (ls : List Leaf) → Covers a ls b → AreLeaves s.rules ls → AreWindows (events s) (IsLeftUndecided s ls) a b (windows ls)
  windows_of_leaves a b ls cover are = windows_are (events s) (IsLeftUndecided s ls) a b ls cover (leaves_are_right ls are)

  pub windows_of_tree : (n : Node) → IsValid s.rules n → AreWindows (events s) (IsLeftUndecided s (leaves s.rules n)) n.a n.b (windows (leaves s.rules n))
  windows_of_tree n valid = windows_of_leaves n.a n.b (leaves s.rules n) (leaves_cover s.rules is.sound n valid) (leaves_are s.rules is.sound n valid)
