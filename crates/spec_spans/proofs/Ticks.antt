-- Windows of one tick each, none of them undecided, are the ticks of the events, whatever leaves they come from.
use Rattle.std.proofs.Common.{◌≡◌, ℕ, ◌≤◌, ◌⊎◌, inl, inr, Bool, true, false, nat_le, if◌then◌else◌, All, List, [], ◌∷◌, Some, ℤ, pos, ◌+ℤ◌, ◌-ℤ◌, ◌≤ℤ◌, ◌<ℤ◌, refl, sym, ap, ◌∙◌, subst, arith}
use Rattle.std.proofs.lemmas.Int.{ints}
use Rattle.std.proofs.lemmas.Bool.{and_parts, leb-true}
use Rattle.std.proofs.lemmas.List.Elements.{All-head, All-tail, All-weaker}
use Rattle.spec_trees.specs.declared.tree.Leaf.{Leaf}
use Rattle.spec_trees.specs.declared.tree.Mark.{Mark}
use Rattle.spec_trees.specs.declared.tree.Mark.TheVariants as M
use Rattle.spec_trees.specs.declared.tree.Node.{Node}
use Rattle.spec_trees.specs.declared.tree.Turn.{Turn}
use Rattle.spec_trees.specs.declared.tree.Turn.TheVariants.{Rise, Fall}
use Rattle.spec_trees.specs.declared.tree.Verdict.{Verdict}
use Rattle.spec_trees.specs.declared.tree.Verdict.TheVariants as V
use Rattle.spec_trees.specs.declared.window.Holds.TheVariants as H
use Rattle.spec_trees.specs.declared.window.Window.{Window}
use Rattle.spec_trees.specs.Tree.{AreLeaves, Covers, IsLeaf, mark_of, width}
use Rattle.spec_trees.specs.Windows.{window_of, windows}
use Rattle.spec_trees.proofs.Placing.{covers_forward}
use Rattle.spec_trees.proofs.Sides.{before_after_or_at, upto_or_after}
use Rattle.spec_events.specs.Events.{HasNoEvent, IsEvent}
use Rattle.spec_events.specs.Marks.{AreRightlyMarked, IsRightMark}
use Rattle.spec_events.specs.Soundness.{findings_of}
use Rattle.spec_events.specs.Verdict.{Criteria, Findings, is_clear, is_one, is_readable, is_split, turn_to, verdict}
use Rattle.spec_searches.specs.Search.{IsSearch, Search, criteria, events, evidence_at, verdict_of}
use Rattle.spec_searches.specs.Found.{IsLeftUndecided, rules}
use Rattle.spec_searches.proofs.Finding.{are_right}
use Rattle.spec_spans.specs.Joins.{AreDecided, is_open}
use Rattle.spec_spans.proofs.Joining.{begin_open}

module _ (E : Turn → ℤ → Type 0) where
  -- the window is the tick of an event
  pub record IsTick (w : Window) : Type 0 where
    pub turn : Turn
    pub holds : w.holds ≡ H.Certain turn
    pub one : w.first ≡ w.last
    pub turns : E turn w.last

  -- the ticks of all events after one time and up to another, in order
  abbrev pub Ticks : ℤ → ℤ → List Window → Type 0
  Ticks a b [] = HasNoEvent E a b
  Ticks a b (w ∷ ws) = (a <ℤ w.last) × (w.last ≤ℤ b) × IsTick w × HasNoEvent E a (w.last -ℤ pos 1) × Ticks w.last b ws

  event : (turn : Turn) (t : ℤ) → E turn t → IsEvent E t
  event Rise t e = inl e
  event Fall t e = inr e

  none_after : (a b c : ℤ) → HasNoEvent E a b → HasNoEvent E b c → HasNoEvent E a c
  none_after a b c p q = λ t after upto e. elim (upto_or_after t b) [
    | inl before ↦ p t after before e
    | inr later ↦ q t later upto e
  ]

  -- ---- the windows of leaves
  sooner : (a c b : ℤ) (ws : List Window) → a ≤ℤ c → HasNoEvent E a c → Ticks c b ws → Ticks a b ws
  sooner a c b [] h none p = none_after a c b none p
  sooner a c b (w ∷ ws) h none p =
      let after = p.0 in
      (omega (arith, ints, h, after), p.1, p.2, none_after a c (w.last -ℤ pos 1) none p.3, p.4)

  -- a leaf with one event is one tick
  abbrev IsUnit : Leaf → Type 0
  IsUnit l = (turn : Turn) → l.mark ≡ M.One turn → (l.node.a +ℤ pos 1) ≡ l.node.b

  module _ (U : Node → Type 0) where
    -- an undecided leaf leaves an undecided window
    no_open : (l : Leaf) (ls : List Leaf) (a b : ℤ) → Covers a (l ∷ ls) b → AreDecided (windows (l ∷ ls)) → l.mark ≡ M.Undecided → ⊥
    no_open l ls a b cover decided is =
        let o = begin_open a b (l ∷ ls) cover (rw is refl) in
        let first = All-head (λ w. is_open w.holds ≡ false) o.window o.others (subst AreDecided o.are decided) in
        let undecided = o.undecided in
        absurd (cc)

    step : (m : Mark) (n : Node) (ls : List Leaf) (b : ℤ) → n.a <ℤ n.b → n.b ≤ℤ b → IsRightMark E U n m → ((turn : Turn) → m ≡ M.One turn → (n.a +ℤ pos 1) ≡ n.b)
        → (m ≡ M.Undecided → ⊥) → (AreDecided (windows ls) → Ticks n.b b (windows ls)) → AreDecided (windows (record { node = n; mark = m } ∷ ls)) → Ticks n.a b (windows (record { node = n; mark = m } ∷ ls))
    step M.Clear n ls b some upto right unit known rest decided = sooner n.a n.b b (windows ls) (omega (arith, ints, some)) right (rest decided)
    step (M.One turn) n ls b some upto right unit known rest decided =
        let u = unit turn refl in
        let from = right.inside.from in
        let to = right.inside.to in
        let at : right.time ≡ n.b = omega (arith, ints, u, from, to) in (
          some,
          upto,
          record { turn = turn; holds = refl; one = u; turns = subst (E turn) at right.turns },
          (λ t after before e. absurd (omega (arith, ints, u, after, before))),
          rest (All-tail (λ w. is_open w.holds ≡ false) (window_of n (H.Certain turn)) (windows ls) decided),
        )
    step M.Undecided n ls b some upto right unit known rest decided = absurd (known refl)

    pub are_ticks : (a b : ℤ) (ls : List Leaf) → Covers a ls b → AreRightlyMarked E U ls → All IsUnit ls → AreDecided (windows ls) → Ticks a b (windows ls)
    are_ticks a b [] cover right units decided = λ t after upto e. absurd (omega (arith, ints, cover, after, upto))
    are_ticks a b (l ∷ ls) cover right units decided =
        subst (λ (t : ℤ). Ticks t b (windows (l ∷ ls))) cover.0
        (step l.mark l.node ls b cover.1 (covers_forward ls l.node.b b cover.2) (All-head (λ m. IsRightMark E U m.node m.mark) l ls right) (All-head IsUnit l ls units)
        (no_open l ls a b cover decided)
        (λ others. are_ticks l.node.b b ls cover.2 (All-tail (λ m. IsRightMark E U m.node m.mark) l ls right) (All-tail IsUnit l ls units) others) decided)

-- ---- there is one list of them
module _ (E : Turn → ℤ → Type 0) (one_way : (t : ℤ) → E Rise t → E Fall t → ⊥) where
  same_turn : (p q : Turn) (t : ℤ) → E p t → E q t → p ≡ q
  same_turn Rise Rise t x y = refl
  same_turn Fall Fall t x y = refl
  same_turn Rise Fall t x y = absurd (one_way t x y)
  same_turn Fall Rise t x y = absurd (one_way t y x)

  same_window : (w v : Window) → w.last ≡ v.last → IsTick E w → IsTick E v → w ≡ v
  same_window w v e i j =
      let turns : i.turn ≡ j.turn = same_turn i.turn j.turn v.last (subst (λ (t : ℤ). E i.turn t) e i.turns) j.turns in
      let holds : w.holds ≡ v.holds = i.holds ∙ ap H.Certain turns ∙ sym j.holds in
      let first : w.first ≡ v.first = i.one ∙ e ∙ sym j.one in
      λ k. record { first = first k; last = e k; holds = holds k }

  pub one_list : (a b : ℤ) (ws vs : List Window) → Ticks E a b ws → Ticks E a b vs → ws ≡ vs
  one_list a b [] [] p q = refl
  one_list a b [] (v ∷ vs) p q = absurd (p v.last q.0 q.1 (event E q.2.turn v.last q.2.turns))
  one_list a b (w ∷ ws) [] p q = absurd (q w.last p.0 p.1 (event E p.2.turn w.last p.2.turns))
  one_list a b (w ∷ ws) (v ∷ vs) p q = by (before_after_or_at w.last v.last) (λ c x y. one_list c b ws vs x y)
    where
      by : (w.last <ℤ v.last) ⊎ ((v.last <ℤ w.last) ⊎ (w.last ≡ v.last)) → ((c : ℤ) → Ticks E c b ws → Ticks E c b vs → ws ≡ vs) → w ∷ ws ≡ v ∷ vs
      by (inl before) below = absurd (q.3 w.last p.0 (omega (arith, ints, before)) (event E p.2.turn w.last p.2.turns))
      by (inr (inl after)) below = absurd (p.3 v.last q.0 (omega (arith, ints, after)) (event E q.2.turn v.last q.2.turns))
      by (inr (inr same)) below =
          let rest = below v.last (subst (λ (t : ℤ). Ticks E t b ws) same p.4) q.4 in
          λ k. same_window w v same p.2 q.2 k ∷ rest k

-- ---- those of a search
narrow : (c : Criteria) (n : Node) (f : Findings) (turn : Turn) → verdict c n f ≡ V.One turn → width n ≤ c.width
unfolding verdict
narrow c n f turn e = by (is_clear c n f) (is_one c n f) (is_split c n f) refl e
  where
    by : (p q r : Bool) → is_one c n f ≡ q → (if p then V.Clear else if q then V.One (turn_to f.at_last) else if r then V.Split else V.Undecided) ≡ V.One turn → width n ≤ c.width
    by true q r k e = absurd (cc)
    by false true r k e = leb-true (width n) c.width (and_parts (nat_le (width n) c.width) _ (and_parts (is_readable n f.crosses) _ k).1).0
    by false false true k e = absurd (cc)
    by false false false k e = absurd (cc)

marked_one : (v : Verdict) (turn : Turn) → mark_of v ≡ Some (M.One turn) → v ≡ V.One turn
marked_one V.Clear turn e = absurd (cc)
marked_one (V.One other) turn e = cc
marked_one V.Split turn e = absurd (cc)
marked_one V.Undecided turn e = absurd (cc)

one_unit : (n : Node) → n.a <ℤ n.b → width n ≤ 1 → (n.a +ℤ pos 1) ≡ n.b
one_unit n some few = omega (arith, ints, some, few)

module _ (s : Search) where
  pub one_way : (t : ℤ) → events s Rise t → events s Fall t → ⊥
  one_way t rise fall = fall.turns.1 rise.turns.1

module _ (s : Search) (is : IsSearch s) (of_one : s.width ≡ 1) where
  is_narrow : (n : Node) (turn : Turn) → verdict_of s n ≡ V.One turn → width n ≤ s.width
  unfolding verdict_of
  is_narrow n turn e = narrow (criteria s) n (findings_of (evidence_at s n)) turn e

  is_unit : (l : Leaf) → IsLeaf (rules s) l → IsUnit (events s) l
  is_unit l leaf turn marked =
      let one = marked_one (verdict_of s l.node) turn (leaf.marked ∙ ap Some marked) in
      one_unit l.node leaf.valid.inside (subst (λ (k : ℕ). width l.node ≤ k) of_one (is_narrow l.node turn one))

  pub decided_ticks : (a b : ℤ) (ls : List Leaf) → Covers a ls b → AreLeaves (rules s) ls → AreDecided (windows ls) → Ticks (events s) a b (windows ls)
  decided_ticks a b ls cover are decided =
      are_ticks (events s) (IsLeftUndecided s ls) a b ls cover (are_right s is ls are)
      (All-weaker (IsLeaf (rules s)) (IsUnit (events s)) is_unit ls are) decided
