-- Leaves that are rightly marked for the turns of a condition, in both directions and with no guard, tell of it.
use Rattle.std.proofs.Common.{◌≡◌, ◌⊎◌, inl, inr, List, [], ◌∷◌, ℤ, pos, ◌+ℤ◌, ◌-ℤ◌, ◌≤ℤ◌, ◌<ℤ◌, refl, subst, arith}
use Rattle.std.specs.Prelude.{◌↔◌}
use Rattle.std.proofs.lemmas.Int.{ints}
use Rattle.std.proofs.lemmas.List.Elements.{All-nil, All-cons, All-head, All-tail}
use Rattle.spec_intervals.specs.Fraction.{Fraction}
use Rattle.spec_trees.specs.declared.tree.Leaf.{Leaf}
use Rattle.spec_trees.specs.declared.tree.Mark.{Mark}
use Rattle.spec_trees.specs.declared.tree.Mark.TheVariants as M
use Rattle.spec_trees.specs.declared.tree.Node.{Node}
use Rattle.spec_trees.specs.declared.tree.Turn.{Turn}
use Rattle.spec_trees.specs.declared.tree.Turn.TheVariants.{Rise, Fall}
use Rattle.spec_trees.specs.declared.window.Holds.TheVariants.{Certain}
use Rattle.spec_trees.specs.Tree.{Covers}
use Rattle.spec_trees.specs.Windows.{window_of}
use Rattle.spec_events.specs.declared.dir.Dir.TheVariants as D
use Rattle.spec_events.specs.Events.{HasNoEvent, HoldsOne, IsEvent, IsTurn}
use Rattle.spec_events.specs.Functions.{EventsOf, Guard, GuardHolds, GuardsHold, IsNotNegative}
use Rattle.spec_events.specs.Marks.{AreRightlyMarked, IsRightMark}
use Rattle.spec_events.specs.Soundness.{Lasts, IsNot}
use Rattle.spec_events.proofs.Evidence.{decide}
use Rattle.spec_events.proofs.Lasting.{lasts}
use Rattle.spec_sets.specs.Signs.{IsTold, AreTold}

module _ (exact : ℤ → Fraction) where
  abbrev P : ℤ → Type 0
  P = IsNotNegative exact

  abbrev E : Turn → ℤ → Type 0
  E = EventsOf exact D.Any []

  no_guard : (t : ℤ) → GuardsHold [] t
  no_guard t = All-nil (λ (g : Guard). GuardHolds g t)

  an_event : (turn : Turn) (t : ℤ) → IsTurn P turn t → IsEvent E t
  an_event Rise t turns = inl (record { wanted = refl; turns = turns; guarded = no_guard t })
  an_event Fall t turns = inr (record { wanted = refl; turns = turns; guarded = no_guard t })

  before_next : (t : ℤ) → t ≡ (t +ℤ pos 1) -ℤ pos 1
  before_next t = omega (arith, ints)

  -- where there is no event the condition stays as it is
  module _ (a b : ℤ) (none : HasNoEvent E a b) where
    stays : Lasts P a b
    stays t after before is = by (decide exact (t +ℤ pos 1))
      where
        by : P (t +ℤ pos 1) ⊎ IsNot P (t +ℤ pos 1) → P (t +ℤ pos 1)
        by (inl so) = so
        by (inr not) = absurd (none (t +ℤ pos 1) (omega (arith, ints, after)) (omega (arith, ints, before)) (an_event Fall (t +ℤ pos 1) (subst P (before_next t) is, not)))

    stays_not : Lasts (IsNot P) a b
    stays_not t after before is so =
        none (t +ℤ pos 1) (omega (arith, ints, after)) (omega (arith, ints, before)) (an_event Rise (t +ℤ pos 1) (subst (IsNot P) (before_next t) is, so))

    same_at_end : (t : ℤ) → a ≤ℤ t → t ≤ℤ b → P t ↔ P b
    same_at_end t after upto = (lasts P a b stays t b after upto (omega (arith, ints)), λ last. by last (decide exact t))
      where
        by : P b → P t ⊎ IsNot P t → P t
        by last (inl so) = so
        by last (inr not) = absurd (lasts (IsNot P) a b stays_not t b after upto (omega (arith, ints)) not last)

  -- after the one event of a window nothing changes up to its end
  end_told : (n : Node) (turn : Turn) → n.a <ℤ n.b → HoldsOne E turn (window_of n (Certain turn)) → IsTold P n (M.One turn)
  end_told n turn wide one = by turn one.turns.turns
    where
      from : (n.a +ℤ pos 1) ≤ℤ one.time
      from = one.inside.from

      upto : one.time ≤ℤ n.b
      upto = one.inside.to

      none : HasNoEvent E one.time n.b
      none t after before event =
          let only = one.alone t (record { from = omega (arith, ints, from, after); to = before }) event in
          absurd (omega (arith, ints, only, after))

      by : (turn : Turn) → IsTurn P turn one.time → IsTold P n (M.One turn)
      by Rise turns = (same_at_end one.time n.b none one.time (omega (arith, ints)) upto).0 turns.1
      by Fall turns = λ last. turns.1 ((same_at_end one.time n.b none one.time (omega (arith, ints)) upto).1 last)

  pub mark_told : (U : Node → Type 0) (n : Node) (m : Mark) → n.a <ℤ n.b → IsRightMark E U n m → IsTold P n m
  mark_told U n M.Clear wide right = same_at_end n.a n.b right
  mark_told U n (M.One turn) wide right = end_told n turn wide right
  mark_told U n M.Undecided wide right = tt

  pub marks_tell : (U : Node → Type 0) (a b : ℤ) (ls : List Leaf) → Covers a ls b → AreRightlyMarked E U ls → AreTold P ls
  marks_tell U a b [] c right = All-nil (λ (l : Leaf). IsTold P l.node l.mark)
  marks_tell U a b (l ∷ ls) c right =
      All-cons (λ (l : Leaf). IsTold P l.node l.mark) l ls
      (mark_told U l.node l.mark c.1 (All-head (λ (l : Leaf). IsRightMark E U l.node l.mark) l ls right))
      (marks_tell U l.node.b b ls c.2 (All-tail (λ (l : Leaf). IsRightMark E U l.node l.mark) l ls right))
