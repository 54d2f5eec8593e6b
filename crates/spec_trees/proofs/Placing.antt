-- The windows of leaves that cover a span lie in it, in order.
use Rattle.std.proofs.Common.{◌≡◌, Bool, true, false, List, [], ◌∷◌, ℤ, pos, ◌+ℤ◌, ◌≤ℤ◌, ◌<ℤ◌, arith, refl}
use Rattle.std.proofs.lemmas.Int.{ints}
use Rattle.std.proofs.lemmas.List.Elements.{All-nil, All-cons, All-weaker}
use Rattle.spec_trees.specs.declared.tree.Node.{Node}
use Rattle.spec_trees.specs.declared.tree.Leaf.{Leaf}
use Rattle.spec_trees.specs.declared.tree.Mark.{Mark}
use Rattle.spec_trees.specs.declared.tree.Mark.TheVariants as M
use Rattle.spec_trees.specs.declared.window.Holds.{Holds}
use Rattle.spec_trees.specs.declared.window.Holds.TheVariants as H
use Rattle.spec_trees.specs.declared.window.Window.{Window}
use Rattle.spec_trees.specs.Placement.{AreInOrder, AreWithin, IsBefore, IsWithin}
use Rattle.spec_trees.specs.Tree.{Covers}
use Rattle.spec_trees.specs.Windows.{window_of, begin_undecided, widened, windows_by, windows}

pub covers_forward : (ls : List Leaf) (a b : ℤ) → Covers a ls b → a ≤ℤ b
covers_forward [] a b c = omega (arith, ints, c)
covers_forward (l ∷ ls) a b c = omega (arith, ints, c.0, c.1, covers_forward ls l.node.b b c.2)

-- a window of a part of a span lies within the span
pub earlier : (low mid upto : ℤ) → low ≤ℤ mid → (w : Window) → IsWithin mid upto w → IsWithin low upto w
earlier low mid upto h w i = record { from = omega (arith, ints, h, i.from); ordered = i.ordered; to = i.to }

-- each window lies after the one before it, the first after one time and the last up to another
abbrev Placed : ℤ → ℤ → List Window → Type 0
Placed low upto [] = Unit {0}
Placed low upto (w ∷ ws) = IsWithin low upto w × Placed w.last upto ws

sooner : (low mid upto : ℤ) (ws : List Window) → low ≤ℤ mid → Placed mid upto ws → Placed low upto ws
sooner low mid upto [] h p = tt
sooner low mid upto (w ∷ ws) h p = (record { from = omega (arith, ints, h, p.0.from); ordered = p.0.ordered; to = p.0.to }, p.1)

widen : (a b upto : ℤ) (ws : List Window) → a <ℤ b → Placed b upto ws → Placed a upto (widened (a +ℤ pos 1) ws)
widen a b upto [] h p = tt
widen a b upto (w ∷ ws) h p =
    (record { from = omega (arith, ints); ordered = omega (arith, ints, h, p.0.from, p.0.ordered); to = p.0.to }, p.1)

own : (n : Node) (upto : ℤ) (h : Holds) → n.a <ℤ n.b → n.b ≤ℤ upto → IsWithin n.a upto (window_of n h)
own n upto h i j = record { from = omega (arith, ints); ordered = omega (arith, ints, i); to = j }

one_more : (m : Mark) (n : Node) (upto : ℤ) (b : Bool) (ls : List Leaf) (ws : List Window) → begin_undecided ls ≡ b → n.a <ℤ n.b → n.b ≤ℤ upto → Placed n.b upto ws → Placed n.a upto (windows_by m n ls ws)
one_more M.Clear n upto b ls ws e i j p = sooner n.a n.b upto ws (omega (arith, ints, i)) p
one_more (M.One turn) n upto b ls ws e i j p = (own n upto (H.Certain turn) i j, p)
one_more M.Undecided n upto true ls ws e i j p = rw e (widen n.a n.b upto ws i p)
one_more M.Undecided n upto false ls ws e i j p = rw e (own n upto H.Undecided i j, p)

placed : (a b : ℤ) (ls : List Leaf) → Covers a ls b → Placed a b (windows ls)
placed a b [] c = tt
placed a b (l ∷ ls) c =
    sooner a l.node.a b (windows (l ∷ ls)) (omega (arith, ints, c.0))
    (one_more l.mark l.node b (begin_undecided ls) ls (windows ls) refl c.1 (covers_forward ls l.node.b b c.2) (placed l.node.b b ls c.2))

within : (low upto : ℤ) (ws : List Window) → Placed low upto ws → AreWithin low upto ws
within low upto [] p = All-nil (IsWithin low upto)
within low upto (w ∷ ws) p =
    let forward : low ≤ℤ w.last = omega (arith, ints, p.0.from, p.0.ordered) in
    All-cons (IsWithin low upto) w ws p.0 (All-weaker (IsWithin w.last upto) (IsWithin low upto) (earlier low w.last upto forward) ws (within w.last upto ws p.1))

-- a window before windows that lie after its end
pub in_order-cons : (w : Window) (upto : ℤ) (ws : List Window) → w.first ≤ℤ w.last → AreWithin w.last upto ws → AreInOrder ws → AreInOrder (w ∷ ws)
in_order-cons w upto ws h within o = (h, All-weaker (IsWithin w.last upto) (IsBefore w) (λ v i. i.from) ws within, o)

disjoint : (low upto : ℤ) (ws : List Window) → Placed low upto ws → AreInOrder ws
disjoint low upto [] p = tt
disjoint low upto (w ∷ ws) p =
    in_order-cons w upto ws p.0.ordered (within w.last upto ws p.1) (disjoint w.last upto ws p.1)

pub windows_within : (a b : ℤ) (ls : List Leaf) → Covers a ls b → AreWithin a b (windows ls)
windows_within a b ls c = within a b (windows ls) (placed a b ls c)

pub windows_in_order : (a b : ℤ) (ls : List Leaf) → Covers a ls b → AreInOrder (windows ls)
windows_in_order a b ls c = disjoint a b (windows ls) (placed a b ls c)
