-- The windows of leaves and of the leaves after them are the windows of both, joined.
use Rattle.std.proofs.Common.{◌≡◌, ◌&&◌, Bool, true, false, List, [], ◌∷◌, ◌++◌, ℤ, pos, ◌+ℤ◌, ◌≤ℤ◌, int_le, if◌then◌else◌, refl, sym, ap, ◌∙◌, subst, arith}
use Rattle.std.proofs.lemmas.Int.{ints}
use Rattle.std.proofs.lemmas.Bool.{and_right}
use Rattle.std.proofs.lemmas.List.Elements.{All-head}
use Rattle.spec_trees.specs.declared.tree.Leaf.{Leaf}
use Rattle.spec_trees.specs.declared.tree.Mark.{Mark}
use Rattle.spec_trees.specs.declared.tree.Mark.TheVariants as M
use Rattle.spec_trees.specs.declared.tree.Node.{Node}
use Rattle.spec_trees.specs.declared.tree.Turn.{Turn}
use Rattle.spec_trees.specs.declared.window.Holds.TheVariants as H
use Rattle.spec_trees.specs.declared.window.Window.{Window}
use Rattle.spec_trees.specs.Placement.{AreWithin, IsWithin}
use Rattle.spec_trees.specs.Tree.{Covers}
use Rattle.spec_trees.specs.Windows.{begin_undecided, is_undecided, widened, window_of, windows, windows_by}
use Rattle.spec_trees.proofs.Placing.{covers_forward, windows_within}
use Rattle.spec_spans.specs.Joins.{goes_on, is_open, joined, met}

-- ---- a last window and the windows of the next span
-- what begins later is not met
apart : (w : Window) (low upto : ℤ) (vs : List Window) → (w.last +ℤ pos 1) ≤ℤ low → AreWithin low upto vs → w ∷ vs ≡ met w vs
apart w low upto [] h inside = refl
apart w low upto (v ∷ vs) h inside =
    let first = All-head (IsWithin low upto) v vs inside in
    let from = first.from in
    let late : false ≡ int_le v.first (w.last +ℤ pos 1) = omega (arith, ints, h, from) in
    let not_on : goes_on w v ≡ false = and_right (is_open w.holds) _ (and_right (is_open v.holds) _ (sym late)) in
    rw not_on refl

-- an undecided one behind an undecided one
open_met : (w v : Window) (vs : List Window) → w.holds ≡ H.Undecided → v.holds ≡ H.Undecided → v.first ≤ℤ (w.last +ℤ pos 1) → record v { first = w.first } ∷ vs ≡ met w (v ∷ vs)
open_met w v vs wu vu h =
    let early : true ≡ int_le v.first (w.last +ℤ pos 1) = omega (arith, ints, h) in
    let on : goes_on w v ≡ true = (λ i. is_open (wu i) && (is_open (vu i) && sym early i)) in
    rw on refl

-- ---- windows that begin with an undecided one
pub record BeginOpen (a : ℤ) (ws : List Window) : Type 0 where
  pub window : Window
  pub others : List Window
  pub are : ws ≡ window ∷ others
  pub undecided : window.holds ≡ H.Undecided
  pub begins : window.first ≡ a +ℤ pos 1

open_by : (m : Mark) (n : Node) (ls : List Leaf) (k : Bool) → begin_undecided ls ≡ k → is_undecided m ≡ true → (k ≡ true → BeginOpen n.b (windows ls)) → BeginOpen n.a (windows_by m n ls (windows ls))
open_by M.Clear n ls k e is below = absurd (cc)
open_by (M.One turn) n ls k e is below = absurd (cc)
open_by M.Undecided n ls true e is below =
    let o = below refl in
    rw e (record {
      window = record (o.window) { first = n.a +ℤ pos 1 };
      others = o.others;
      are = ap (widened (n.a +ℤ pos 1)) o.are;
      undecided = o.undecided;
      begins = refl;
    })
open_by M.Undecided n ls false e is below =
    rw e (record { window = window_of n H.Undecided; others = windows ls; are = refl; undecided = refl; begins = refl })

pub begin_open : (a b : ℤ) (ls : List Leaf) → Covers a ls b → begin_undecided ls ≡ true → BeginOpen a (windows ls)
begin_open a b [] c e = absurd (cc)
begin_open a b (l ∷ ls) c e =
    subst (λ (z : ℤ). BeginOpen z (windows (l ∷ ls))) c.0
    (open_by l.mark l.node ls (begin_undecided ls) refl e (λ more. begin_open l.node.b b ls c.2 more))

-- ---- a window in front of windows that are joined
certain_first : (n : Node) (turn : Turn) (ws vs : List Window) → window_of n (H.Certain turn) ∷ joined ws vs ≡ joined (window_of n (H.Certain turn) ∷ ws) vs
certain_first n turn [] [] = refl
certain_first n turn [] (v ∷ vs) = refl
certain_first n turn (x ∷ ws) vs = refl

open_first : (w : Window) (low upto : ℤ) (ws vs : List Window) → (w.last +ℤ pos 1) ≤ℤ low → AreWithin low upto vs → w ∷ joined ws vs ≡ joined (w ∷ ws) vs
open_first w low upto [] vs h inside = apart w low upto vs h inside
open_first w low upto (x ∷ ws) vs h inside = refl

widened_met : (f : ℤ) (w v : Window) (vs : List Window) (b : Bool)
    → widened f (if b then record v { first = w.first } ∷ vs else w ∷ v ∷ vs) ≡ (if b then record v { first = f } ∷ vs else record w { first = f } ∷ v ∷ vs)
widened_met f w v vs true = refl
widened_met f w v vs false = refl

widened_first : (f : ℤ) (w : Window) (ws vs : List Window) → widened f (joined (w ∷ ws) vs) ≡ joined (widened f (w ∷ ws)) vs
widened_first f w [] [] = refl
widened_first f w [] (v ∷ vs) = widened_met f w v vs (goes_on w v)
widened_first f w (x ∷ ws) vs = refl

-- ---- the leaf at the seam
at_seam_by : (n : Node) (ms : List Leaf) (c : ℤ) → Covers n.b ms c → (k : Bool) → begin_undecided ms ≡ k → windows_by M.Undecided n ms (windows ms) ≡ met (window_of n H.Undecided) (windows ms)
at_seam_by n ms c cover true e =
    let o = begin_open n.b c ms cover e in
    let begins = o.begins in
    rw (e, o.are) (open_met (window_of n H.Undecided) o.window o.others refl o.undecided (omega (arith, ints, begins)))
at_seam_by n [] c cover false e = refl
at_seam_by n (m ∷ ms) c cover false e = rw e (by m.mark e)
  where
    by : (k : Mark) → is_undecided k ≡ false → window_of n H.Undecided ∷ windows_by k m.node ms (windows ms) ≡ met (window_of n H.Undecided) (windows_by k m.node ms (windows ms))
    by M.Clear is =
        let from = cover.0 in
        let inside = cover.1 in
        apart (window_of n H.Undecided) m.node.b c (windows ms) (omega (arith, ints, from, inside)) (windows_within m.node.b c ms cover.2)
    by (M.One turn) is = refl
    by M.Undecided is = absurd (cc)

-- ---- leaves and the leaves after them
step : (m : Mark) (n : Node) (ls ms : List Leaf) (b c : ℤ) → Covers n.b ls b → Covers b ms c → windows (ls ++ ms) ≡ joined (windows ls) (windows ms)
    → windows_by m n (ls ++ ms) (windows (ls ++ ms)) ≡ joined (windows_by m n ls (windows ls)) (windows ms)
step M.Clear n ls ms b c p q rest = rest
step (M.One turn) n ls ms b c p q rest = ap (λ ws. window_of n (H.Certain turn) ∷ ws) rest ∙ certain_first n turn (windows ls) (windows ms)
step M.Undecided n [] ms b c p q rest = at_seam_by n ms c (subst (λ (z : ℤ). Covers z ms c) (sym p) q) (begin_undecided ms) refl
step M.Undecided n (l ∷ ls) ms b c p q rest = by (is_undecided l.mark) refl
  where
    by : (k : Bool) → is_undecided l.mark ≡ k
        → windows_by M.Undecided n ((l ∷ ls) ++ ms) (windows ((l ∷ ls) ++ ms)) ≡ joined (windows_by M.Undecided n (l ∷ ls) (windows (l ∷ ls))) (windows ms)
    by true e =
        let o = begin_open n.b b (l ∷ ls) p e in
        rw e (ap (widened (n.a +ℤ pos 1)) rest
        ∙ subst (λ (ws : List Window). widened (n.a +ℤ pos 1) (joined ws (windows ms)) ≡ joined (widened (n.a +ℤ pos 1) ws) (windows ms)) (sym o.are)
        (widened_first (n.a +ℤ pos 1) o.window o.others (windows ms)))
    by false e =
        let from = p.0 in
        let inside = p.1 in
        let on = covers_forward ls l.node.b b p.2 in
        rw e (ap (λ ws. window_of n H.Undecided ∷ ws) rest
        ∙ open_first (window_of n H.Undecided) b c (windows (l ∷ ls)) (windows ms) (omega (arith, ints, from, inside, on)) (windows_within b c ms q))

pub windows_of_both : (ls ms : List Leaf) (a b c : ℤ) → Covers a ls b → Covers b ms c → windows (ls ++ ms) ≡ joined (windows ls) (windows ms)
windows_of_both [] ms a b c p q = refl
windows_of_both (l ∷ ls) ms a b c p q = step l.mark l.node ls ms b c p.2 q (windows_of_both ls ms l.node.b b c p.2 q)
