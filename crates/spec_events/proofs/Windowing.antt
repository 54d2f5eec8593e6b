-- The windows of leaves that cover a span, each of which has the right mark, are the windows of the span's events.
use Rattle.std.proofs.Common.{◌≡◌, suc, List, [], ◌∷◌, Option, Some, None, Any, ℤ, pos, ◌+ℤ◌, ◌≤ℤ◌, ◌<ℤ◌, ◌⊎◌, inl, inr, arith, refl, sym, ap, subst}
use Rattle.std.proofs.lemmas.Int.{ints}
use Rattle.std.proofs.lemmas.List.Elements.{All-nil, All-cons, All-head, All-tail, All-weaker}
use Rattle.spec_trees.specs.declared.tree.Node.{Node}
use Rattle.spec_trees.specs.declared.tree.Leaf.{Leaf}
use Rattle.spec_trees.specs.declared.tree.Mark.{Mark}
use Rattle.spec_trees.specs.declared.tree.Mark.TheVariants as M
use Rattle.spec_trees.specs.declared.tree.Turn.{Turn}
use Rattle.spec_trees.specs.declared.window.Holds.{Holds}
use Rattle.spec_trees.specs.declared.window.Holds.TheVariants as H
use Rattle.spec_trees.specs.declared.window.Window.{Window}
use Rattle.spec_trees.specs.Placement.{IsIn, IsWithin}
use Rattle.spec_events.specs.Events.{IsEvent, IsLeftIn, HasNoEvent, HoldsOne, AreWindows}
use Rattle.spec_trees.specs.Tree.{Covers}
use Rattle.spec_trees.specs.Windows.{window_of, windows}
use Rattle.spec_events.specs.Marks.{IsRightMark, AreRightlyMarked}
use Rattle.spec_trees.specs.Runs.{longer, ended, joined}
use Rattle.spec_trees.proofs.Placing.{covers_forward, earlier, in_order-cons}
use Rattle.spec_trees.proofs.Runs.{joined_are_windows}
use Rattle.spec_trees.proofs.Sides.{upto_or_after}

any_first : (Q : Window → Type 0) (w : Window) (ws : List Window) → Q w → Any Q (w ∷ ws)
any_first Q w ws q = (0, w, omega arith, refl, q)

pub any_later : (Q : Window → Type 0) (w : Window) (ws : List Window) → Any Q ws → Any Q (w ∷ ws)
any_later Q w ws a = (suc a.0, a.1, omega (arith, a.2), a.3, a.4)

module _ (E : Turn → ℤ → Type 0) (U : Node → Type 0) where
  -- times without an event in front
  skip : (low mid upto : ℤ) (ws : List Window) → low ≤ℤ mid → HasNoEvent E low mid → AreWindows E U mid upto ws → AreWindows E U low upto ws
  skip low mid upto ws h none g = record {
    within = All-weaker (IsWithin mid upto) (IsWithin low upto) (earlier low mid upto h) ws g.within;
    in_order = g.in_order;
    every_event = λ t a b e. by t a b e (upto_or_after t mid);
    certain = g.certain;
    undecided = g.undecided;
  }
    where
      by : (t : ℤ) → low <ℤ t → t ≤ℤ upto → IsEvent E t → (t ≤ℤ mid) ⊎ (mid <ℤ t) → Any (λ w. IsIn w t) ws
      by t a b e (inl p) = absurd (none t a p e)
      by t a b e (inr p) = g.every_event t p b e

  -- what a window says by what it holds
  abbrev HoldsAs : Window → Holds → Type 0
  HoldsAs w (H.Certain turn) = HoldsOne E turn w
  HoldsAs w H.Undecided = (t : ℤ) → IsIn w t → IsLeftIn U w t

  certain_as : (w : Window) (turn : Turn) → HoldsAs w w.holds → w.holds ≡ H.Certain turn → HoldsOne E turn w
  certain_as w turn h e = subst (HoldsAs w) e h

  open_as : (w : Window) → HoldsAs w w.holds → w.holds ≡ H.Undecided → (t : ℤ) → IsIn w t → IsLeftIn U w t
  open_as w h e = subst (HoldsAs w) e h

  -- a window in front
  front : (low upto : ℤ) (w : Window) (ws : List Window) → w.first ≡ low +ℤ pos 1 → low <ℤ w.last → w.last ≤ℤ upto → HoldsAs w w.holds → AreWindows E U w.last upto ws → AreWindows E U low upto (w ∷ ws)
  front low upto w ws f i j h g = record {
    within = All-cons (IsWithin low upto) w ws (record { from = omega (arith, ints, f); ordered = omega (arith, ints, f, i); to = j })
        (All-weaker (IsWithin w.last upto) (IsWithin low upto) (earlier low w.last upto (omega (arith, ints, i))) ws g.within);
    in_order = in_order-cons w upto ws (omega (arith, ints, f, i)) g.within g.in_order;
    every_event = λ t a b e. by t a b e (upto_or_after t w.last);
    certain = All-cons (λ v. (turn : Turn) → v.holds ≡ H.Certain turn → HoldsOne E turn v) w ws (λ turn e. certain_as w turn h e) g.certain;
    undecided = All-cons (λ v. v.holds ≡ H.Undecided → (t : ℤ) → IsIn v t → IsLeftIn U v t) w ws (open_as w h) g.undecided;
  }
    where
      by : (t : ℤ) → low <ℤ t → t ≤ℤ upto → IsEvent E t → (t ≤ℤ w.last) ⊎ (w.last <ℤ t) → Any (λ v. IsIn v t) (w ∷ ws)
      by t a b e (inl p) = any_first (λ v. IsIn v t) w ws (record { from = omega (arith, ints, f, a); to = p })
      by t a b e (inr p) = any_later (λ v. IsIn v t) w ws (g.every_event t p b e)

  -- the times after low up to a are those of the run
  abbrev IsRun : Option Window → ℤ → ℤ → Type 0
  IsRun None low a = low ≡ a
  IsRun (Some w) low a = (w.first ≡ low +ℤ pos 1) × (w.last ≡ a) × (low <ℤ a) × (w.holds ≡ H.Undecided) × HoldsAs w H.Undecided

  close : (run : Option Window) (low a upto : ℤ) (ws : List Window) → IsRun run low a → a ≤ℤ upto → AreWindows E U a upto ws → AreWindows E U low upto (ended run ws)
  close None low a upto ws r j g = subst (λ (z : ℤ). AreWindows E U z upto ws) (sym r) g
  close (Some w) low a upto ws r j g =
      front low upto w ws r.0 (omega (arith, ints, r.1, r.2)) (omega (arith, ints, r.1, j)) (subst (λ (h : Holds). HoldsAs w h) (sym r.3) r.4) (subst (λ (z : ℤ). AreWindows E U z upto ws) (sym r.1) g)

  -- a node at the end of a window
  at_end : (w : Window) (n : Node) → U n → w.first ≤ℤ (n.a +ℤ pos 1) → n.b ≤ℤ w.last → (t : ℤ) → n.a <ℤ t → t ≤ℤ n.b → IsLeftIn U w t
  at_end w n left from to t after upto = record { node = n; left = left; from = from; after = after; upto = upto; to = to }

  -- what lies in a window lies in one that ends later
  wider : (w v : Window) (t : ℤ) → v.first ≤ℤ w.first → w.last ≤ℤ v.last → IsLeftIn U w t → IsLeftIn U v t
  wider w v t earlier later is = record {
    node = is.node;
    left = is.left;
    from = let from = is.from in omega (arith, ints, earlier, from);
    after = is.after;
    upto = is.upto;
    to = let to = is.to in omega (arith, ints, later, to);
  }

  stretch : (run : Option Window) (low : ℤ) (n : Node) → IsRun run low n.a → n.a <ℤ n.b → IsRightMark E U n M.Undecided → IsRun (Some (longer run n)) low n.b
  stretch None low n r i h =
      (ap (λ z. z +ℤ pos 1) (sym r), refl, omega (arith, ints, r, i), refl, λ t k. at_end (longer None n) n h (omega (arith, ints)) (omega (arith, ints)) t (omega (arith, ints, k.from)) k.to)
  stretch (Some w) low n r i h = (r.0, refl, omega (arith, ints, r.2, i), refl, λ t k. by t k (upto_or_after t w.last))
    where
      by : (t : ℤ) → IsIn (longer (Some w) n) t → (t ≤ℤ w.last) ⊎ (w.last <ℤ t) → IsLeftIn U (longer (Some w) n) t
      by t k (inl p) = wider w (longer (Some w) n) t (omega (arith, ints)) (omega (arith, ints, r.1, i)) (r.4 t (record { from = k.from; to = p }))
      by t k (inr p) =
          at_end (longer (Some w) n) n h (omega (arith, ints, r.0, r.2)) (omega (arith, ints)) t (omega (arith, ints, r.1, p)) k.to

  nothing : (a : ℤ) → AreWindows E U a a []
  nothing a = record {
    within = All-nil (IsWithin a a);
    in_order = tt;
    every_event = λ t p q e. absurd (omega (arith, ints));
    certain = All-nil (λ v. (turn : Turn) → v.holds ≡ H.Certain turn → HoldsOne E turn v);
    undecided = All-nil (λ v. v.holds ≡ H.Undecided → (t : ℤ) → IsIn v t → IsLeftIn U v t);
  }

  -- one leaf in front
  step : (m : Mark) (run : Option Window) (low b : ℤ) (n : Node) (ls : List Leaf) → IsRun run low n.a → n.a <ℤ n.b → n.b ≤ℤ b → IsRightMark E U n m
      → ((r : Option Window) (l : ℤ) → IsRun r l n.b → AreWindows E U l b (joined r ls)) → AreWindows E U low b (joined run (record { node = n; mark = m } ∷ ls))
  step M.Clear run low b n ls r w j h rest =
      close run low n.a b (joined None ls) r (omega (arith, ints, w, j)) (skip n.a n.b b (joined None ls) (omega (arith, ints)) h (rest None n.b refl))
  step (M.One turn) run low b n ls r w j h rest =
      close run low n.a b (window_of n (H.Certain turn) ∷ joined None ls) r (omega (arith, ints, w, j)) (front n.a b (window_of n (H.Certain turn)) (joined None ls) refl w j h (rest None n.b refl))
  step M.Undecided run low b n ls r w j h rest = rest (Some (longer run n)) low (stretch run low n r w h)

  abbrev HasRightMark : Leaf → Type 0
  HasRightMark l = IsRightMark E U l.node l.mark

  joined_are : (ls : List Leaf) (run : Option Window) (low a b : ℤ) → IsRun run low a → Covers a ls b → AreRightlyMarked E U ls → AreWindows E U low b (joined run ls)
  joined_are [] run low a b r c h = close run low a b [] r (omega (arith, ints, c)) (subst (λ (z : ℤ). AreWindows E U a z []) c (nothing a))
  joined_are (l ∷ ls) run low a b r c h =
      step l.mark run low b l.node ls (subst (λ (z : ℤ). IsRun run low z) (sym c.0) r) c.1 (covers_forward ls l.node.b b c.2) (All-head HasRightMark l ls h) (λ s k q. joined_are ls s k l.node.b b q c.2 (All-tail HasRightMark l ls h))

  pub windows_are : (a b : ℤ) (ls : List Leaf) → Covers a ls b → AreRightlyMarked E U ls → AreWindows E U a b (windows ls)
  windows_are a b ls c h =
      subst (λ (ws : List Window). AreWindows E U a b ws) (joined_are_windows ls) (joined_are ls None a a b refl c h)
