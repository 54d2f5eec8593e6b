-- The windows of neighbouring spans: those of both where the spans meet at a seam, and windows of both spans' events
-- anywhere.
use Rattle.std.proofs.Common.{◌≡◌, ◌⊎◌, inl, inr, zero, suc, List, [], ◌∷◌, ◌++◌, Any, ℤ, ◌≤ℤ◌, ◌<ℤ◌, ◌∙◌, subst, arith}
use Rattle.std.specs.Prelude.{Contains}
use Rattle.std.proofs.lemmas.Int.{ints}
use Rattle.std.proofs.lemmas.List.Elements.{All-append, All-head, All-tail, All-weaker}
use Rattle.spec_trees.specs.declared.tree.Leaf.{Leaf}
use Rattle.spec_trees.specs.declared.tree.Node.{Node}
use Rattle.spec_trees.specs.declared.tree.Turn.{Turn}
use Rattle.spec_trees.specs.declared.window.Window.{Window}
use Rattle.spec_trees.specs.declared.window.Holds.TheVariants.{Certain, Undecided}
use Rattle.spec_trees.specs.Placement.{AreInOrder, AreWithin, IsBefore, IsIn, IsWithin}
use Rattle.spec_trees.specs.Tree.{AreLeaves, Covers, IsLeaf}
use Rattle.spec_trees.specs.Windows.{windows}
use Rattle.spec_trees.proofs.Covering.{covers_append, leaves_are, leaves_cover}
use Rattle.spec_trees.proofs.Sides.{upto_or_after}
use Rattle.spec_events.specs.Events.{AreWindows, HoldsOne, IsEvent, IsLeftIn}
use Rattle.spec_events.proofs.Windowing.{any_later}
use Rattle.spec_searches.specs.Search.{IsSearch, Search, events}
use Rattle.spec_searches.specs.Found.{IsLeftUndecided, IsSpan, leaves_of, root, rules, windows_of}
use Rattle.spec_searches.proofs.Finding.{windows_are_found, windows_of_leaves}
use Rattle.spec_searches.proofs.Parts.{root_is_valid, rules_are_sound}
use Rattle.spec_spans.specs.Joins.{joined}
use Rattle.spec_spans.specs.Seams.{IsSeam}
use Rattle.spec_spans.proofs.Joining.{windows_of_both}
use Rattle.spec_spans.proofs.Seams.{leaves_at_seam}

module _ (s : Search) (is : IsSearch s) where
  pub cover : (first last : ℤ) → IsSpan s first last → Covers first (leaves_of s first last) last
  cover first last span = leaves_cover (rules s) (rules_are_sound s is.view) (root first last) (root_is_valid s is.view first last span)

  pub are_leaves : (first last : ℤ) → IsSpan s first last → AreLeaves (rules s) (leaves_of s first last)
  are_leaves first last span = leaves_are (rules s) (rules_are_sound s is.view) (root first last) (root_is_valid s is.view first last span)

  pub cover_both : (first time last : ℤ) → IsSpan s first time → IsSpan s time last → Covers first (leaves_of s first time ++ leaves_of s time last) last
  cover_both first time last left right = covers_append (leaves_of s first time) (leaves_of s time last) first time last (cover first time left) (cover time last right)

  pub are_leaves_both : (first time last : ℤ) → IsSpan s first time → IsSpan s time last → AreLeaves (rules s) (leaves_of s first time ++ leaves_of s time last)
  are_leaves_both first time last left right = All-append (IsLeaf (rules s)) (leaves_of s first time) (leaves_of s time last) (are_leaves first time left) (are_leaves time last right)

  -- the windows of the leaves of two spans that meet
  pub joined_windows : (first time last : ℤ) → IsSpan s first time → IsSpan s time last
      → windows (leaves_of s first time ++ leaves_of s time last) ≡ joined (windows_of s first time) (windows_of s time last)
  joined_windows first time last left right = windows_of_both (leaves_of s first time) (leaves_of s time last) first time last (cover first time left) (cover time last right)

  pub windows_at_seam : (first last time : ℤ) → IsSpan s first last → IsSeam s first last time → windows_of s first last ≡ joined (windows_of s first time) (windows_of s time last)
  windows_at_seam first last time span m =
      let from = span.from in
      let to = span.to in
      let after = m.after in
      let before = m.before in
      let left : IsSpan s first time = record { from = from; ordered = after; to = omega (arith, ints, before, to) } in
      let right : IsSpan s time last = record { from = omega (arith, ints, after, from); ordered = before; to = to } in
      (λ i. windows (leaves_at_seam s is first last 0 (root_is_valid s is.view first last span) time m i))
      ∙ joined_windows first time last left right

  pub joined_are : (first time last : ℤ) → IsSpan s first time → IsSpan s time last
      → AreWindows (events s) (IsLeftUndecided s (leaves_of s first time ++ leaves_of s time last)) first last (joined (windows_of s first time) (windows_of s time last))
  joined_are first time last left right =
      subst (λ (ws : List Window). AreWindows (events s) (IsLeftUndecided s (leaves_of s first time ++ leaves_of s time last)) first last ws) (joined_windows first time last left right)
      (windows_of_leaves s is first last (leaves_of s first time ++ leaves_of s time last) (cover_both first time last left right) (are_leaves_both first time last left right))

-- ---- windows of any events
any_back : (Q : Window → Type 0) (ws vs : List Window) → Any Q vs → Any Q (ws ++ vs)
any_back Q [] vs a = a
any_back Q (w ∷ ws) vs a = any_later Q w (ws ++ vs) (any_back Q ws vs a)

any_front : (Q : Window → Type 0) (ws vs : List Window) → Any Q ws → Any Q (ws ++ vs)
any_front Q [] vs a = let none = a.2 in absurd (omega (arith, none))
any_front Q (w ∷ ws) vs (zero, v, below, at, q) = (zero, v, omega arith, at, q)
any_front Q (w ∷ ws) vs (suc k, v, below, at, q) = any_later Q w (ws ++ vs) (any_front Q ws vs (k, v, omega (arith, below), at, q))

-- windows up to a time, and then windows after it
in_order : (a b c : ℤ) (ws vs : List Window) → AreInOrder ws → AreWithin a b ws → AreInOrder vs → AreWithin b c vs → AreInOrder (ws ++ vs)
in_order a b c [] vs o p later q = later
in_order a b c (w ∷ ws) vs o p later q =
    let own = All-head (IsWithin a b) w ws p in
    let to = own.to in (
      o.0,
      All-append (IsBefore w) ws vs o.1 (All-weaker (IsWithin b c) (IsBefore w) (λ v i. let from = i.from in omega (arith, ints, from, to)) vs q),
      in_order a b c ws vs o.2 (All-tail (IsWithin a b) w ws p) later q,
    )

module _ (E : Turn → ℤ → Type 0) (V W U : Node → Type 0) (one : (n : Node) → V n → U n) (other : (n : Node) → W n → U n) where
  left_in : (P : Node → Type 0) → ((n : Node) → P n → U n) → (w : Window) (t : ℤ) → IsLeftIn P w t → IsLeftIn U w t
  left_in P weaker w t i = record { node = i.node; left = weaker i.node i.left; from = i.from; after = i.after; upto = i.upto; to = i.to }

  pub after_each_other : (a b c : ℤ) (ws vs : List Window) → a ≤ℤ b → b ≤ℤ c → AreWindows E V a b ws → AreWindows E W b c vs → AreWindows E U a c (ws ++ vs)
  after_each_other a b c ws vs h j f g = record {
    within = All-append (IsWithin a c) ws vs
        (All-weaker (IsWithin a b) (IsWithin a c) (λ w i. let to = i.to in record { from = i.from; ordered = i.ordered; to = omega (arith, ints, to, j) }) ws f.within)
        (All-weaker (IsWithin b c) (IsWithin a c) (λ w i. let from = i.from in record { from = omega (arith, ints, from, h); ordered = i.ordered; to = i.to }) vs g.within);
    in_order = in_order a b c ws vs f.in_order f.within g.in_order g.within;
    every_event = λ t p q e. by t p q e (upto_or_after t b);
    certain = All-append (λ w. (turn : Turn) → w.holds ≡ Certain turn → HoldsOne E turn w) ws vs f.certain g.certain;
    undecided = All-append (λ w. w.holds ≡ Undecided → (t : ℤ) → IsIn w t → IsLeftIn U w t) ws vs
        (All-weaker (λ w. w.holds ≡ Undecided → (t : ℤ) → IsIn w t → IsLeftIn V w t) (λ w. w.holds ≡ Undecided → (t : ℤ) → IsIn w t → IsLeftIn U w t) (λ w l h t i. left_in V one w t (l h t i)) ws f.undecided)
        (All-weaker (λ w. w.holds ≡ Undecided → (t : ℤ) → IsIn w t → IsLeftIn W w t) (λ w. w.holds ≡ Undecided → (t : ℤ) → IsIn w t → IsLeftIn U w t) (λ w l h t i. left_in W other w t (l h t i)) vs g.undecided);
  }
    where
      by : (t : ℤ) → a <ℤ t → t ≤ℤ c → IsEvent E t → (t ≤ℤ b) ⊎ (b <ℤ t) → Any (λ w. IsIn w t) (ws ++ vs)
      by t p q e (inl before) = any_front (λ w. IsIn w t) ws vs (f.every_event t p before e)
      by t p q e (inr after) = any_back (λ w. IsIn w t) ws vs (g.every_event t after q e)

-- ---- leaves among those of both
among_front : {X : Type 0} (xs ys : List X) (x : X) → Contains xs x → Contains (xs ++ ys) x
among_front [] ys x there = let none = there.1 in absurd (omega (arith, none))
among_front (y ∷ xs) ys x (zero, below, is) = (zero, omega arith, is)
among_front (y ∷ xs) ys x (suc k, below, is) = let later = among_front xs ys x (k, omega (arith, below), is) in (suc later.0, omega (arith, later.1), later.2)

among_back : {X : Type 0} (xs ys : List X) (x : X) → Contains ys x → Contains (xs ++ ys) x
among_back [] ys x there = there
among_back (y ∷ xs) ys x there = let later = among_back xs ys x there in (suc later.0, omega (arith, later.1), later.2)

module _ (s : Search) (ls ms : List Leaf) where
  left_front : (n : Node) → IsLeftUndecided s ls n → IsLeftUndecided s (ls ++ ms) n
  left_front n i = record { leaf = among_front ls ms _ i.leaf; valid = i.valid; undecided = i.undecided; limit = i.limit }

  left_back : (n : Node) → IsLeftUndecided s ms n → IsLeftUndecided s (ls ++ ms) n
  left_back n i = record { leaf = among_back ls ms _ i.leaf; valid = i.valid; undecided = i.undecided; limit = i.limit }

pub side_by_side : (s : Search) → IsSearch s → (first time last : ℤ) → IsSpan s first time → IsSpan s time last
    → AreWindows (events s) (IsLeftUndecided s (leaves_of s first time ++ leaves_of s time last)) first last (windows_of s first time ++ windows_of s time last)
side_by_side s is first time last left right =
    let before = left.ordered in
    let after = right.ordered in
    let ls = leaves_of s first time in
    let ms = leaves_of s time last in
    after_each_other (events s) (IsLeftUndecided s ls) (IsLeftUndecided s ms) (IsLeftUndecided s (ls ++ ms)) (left_front s ls ms) (left_back s ls ms)
    first time last (windows_of s first time) (windows_of s time last) (omega (arith, ints, before)) (omega (arith, ints, after))
    (windows_are_found s is first time left) (windows_are_found s is time last right)
