-- Each step keeps the tiling.
use Rattle.std.proofs.Common.{◌≡◌, ℕ, ◌+◌, ◌≤◌, ℤ, List, [], ◌∷◌, ◌++◌, flat_map, All, IsPermutation, Some, sym, ap, ◌∙◌, subst, append_assoc, arith}
use Rattle.std.proofs.lemmas.List.Elements.{All-from_recursion, recursion_from_All, All-push}
use Rattle.std.proofs.lemmas.List.Sorted.{sum_by-IsPermutation}
use Rattle.std.specs.List.{AllByRecursion}
use Rattle.spec_trees.specs.declared.tree.Node.{Node}
use Rattle.spec_trees.specs.declared.tree.Leaf.{Leaf}
use Rattle.spec_trees.specs.declared.tree.Verdict.TheVariants.{Split}
use Rattle.spec_trees.specs.Tree.{Rules, IsValid, IsSound, IsCut, IsLeaf, AreLeaves, leaves}
use Rattle.spec_trees.proofs.Leaves.{leaves_split}
use Rattle.pool_core.specs.declared.step.Step.{Step}
use Rattle.pool_core.specs.declared.step.Step.TheVariants.{Push, Keep, Pop, TakeKept, Steal, Enter}
use Rattle.pool_core.specs.States.{At, Holding, State, Pushes, Keeps, Pops, TakesKept, Enters, Steps, Runs}
use Rattle.pool_core.specs.Tiling.{nodes, Follow, Tiles, Conserves}
use Rattle.spec_pool.proofs.Weights.{weigh, weigh-append, weigh-push, sum_is_weigh}
use Rattle.spec_pool.proofs.Finding.{is_node, is_itself, find, nodes_permuted}
use Rattle.spec_pool.proofs.Hands.{weigh_hand}
use Rattle.pool_core.proofs.Moving.{weigh_holding, weigh_all, nodes_weigh, pushes_weigh, keeps_weigh, pops_weigh, takes_weigh, steals_weigh, enters_weigh, at_weigh, at_le}

-- ---- the nodes in order, by weight
pub ordered_weigh : (t : Rules) (root : Node) (s : State) (c : Conserves t root s) (h : Node → ℕ) → weigh_all h s ≡ weigh h c.ordered
ordered_weigh t root s c h =
    omega (arith, nodes_weigh h s, sum_is_weigh h (nodes s), sum_is_weigh h c.ordered, sum_by-IsPermutation h (nodes s) c.ordered c.same)

pub from_weights : (s : State) (ordered : List Node) → ((h : Node → ℕ) → weigh_all h s ≡ weigh h ordered) → IsPermutation (nodes s) ordered
from_weights s ordered e = nodes_permuted (nodes s) ordered (λ h. nodes_weigh h s ∙ e h)

-- ---- a node of a tiling, in place of which its parts stand
abbrev AllValid : Rules → List Node → Type 0
AllValid t ns = AllByRecursion (IsValid t) ns

valid_at : (t : Rules) (xs ys : List Node) (n : Node) → AllValid t (xs ++ n ∷ ys) → IsValid t n
valid_at t [] ys n v = v.0
valid_at t (x ∷ xs) ys n v = valid_at t xs ys n v.1

valid_split : (t : Rules) (xs ys : List Node) (n l r : Node) → IsValid t l → IsValid t r → AllValid t (xs ++ n ∷ ys) → AllValid t (xs ++ l ∷ r ∷ ys)
valid_split t [] ys n l r vl vr v = (vl, (vr, v.1))
valid_split t (x ∷ xs) ys n l r vl vr v = (v.0, valid_split t xs ys n l r vl vr v.1)

follow_split : (t : Rules) (xs ys : List Node) (n : Node) (a b : ℤ) → IsCut t n → Follow a (xs ++ n ∷ ys) b → Follow a (xs ++ (t.parts n).0 ∷ (t.parts n).1 ∷ ys) b
follow_split t [] ys n a b c f = (c.cuts.from ∙ f.0, c.left.inside, (sym c.cuts.meet, c.right.inside, subst (λ (z : ℤ). Follow z ys b) (sym c.cuts.to) f.2))
follow_split t (x ∷ xs) ys n a b c f = (f.0, f.1, follow_split t xs ys n x.b b c f.2)

joined_split : (f : Node → List Leaf) (xs ys : List Node) (n l r : Node) → f n ≡ f l ++ f r → flat_map f (xs ++ l ∷ r ∷ ys) ≡ flat_map f (xs ++ n ∷ ys)
joined_split f [] ys n l r e = sym (append_assoc (f l) (f r) (flat_map f ys)) ∙ ap (λ (k : List Leaf). k ++ flat_map f ys) (sym e)
joined_split f (x ∷ xs) ys n l r e = ap (λ (k : List Leaf). f x ++ k) (joined_split f xs ys n l r e)

weigh_split : (h : Node → ℕ) (xs ys : List Node) (n l r : Node) → weigh h (xs ++ l ∷ r ∷ ys) + h n ≡ weigh h (xs ++ n ∷ ys) + (h l + h r)
weigh_split h xs ys n l r = omega (arith, weigh-append h xs (l ∷ r ∷ ys), weigh-append h xs (n ∷ ys))

tiles_split : (t : Rules) → IsSound t → (root : Node) (xs ys : List Node) (n : Node) → t.verdict n ≡ Split → Tiles t root (xs ++ n ∷ ys) → Tiles t root (xs ++ (t.parts n).0 ∷ (t.parts n).1 ∷ ys)
tiles_split t s root xs ys n e tiles =
    let all : AllValid t (xs ++ n ∷ ys) = recursion_from_All (IsValid t) (xs ++ n ∷ ys) tiles.valid in
    let v = valid_at t xs ys n all in
    let c = s.cut n v e in record {
      valid = All-from_recursion (IsValid t) (xs ++ (t.parts n).0 ∷ (t.parts n).1 ∷ ys) (valid_split t xs ys n (t.parts n).0 (t.parts n).1 c.left c.right all);
      follow = follow_split t xs ys n root.a root.b c tiles.follow;
      joined = joined_split (leaves t) xs ys n (t.parts n).0 (t.parts n).1 (leaves_split t s n v e) ∙ tiles.joined;
    }

-- ---- a step that splits a node of a worker
splits : (t : Rules) → IsSound t → (root : Node) (s s' : State) (n : Node) → t.verdict n ≡ Split → is_node n n ≤ weigh_all (is_node n) s
    → ((h : Node → ℕ) → weigh_all h s' + h n ≡ weigh_all h s + (h (t.parts n).0 + h (t.parts n).1)) → s'.entered ≡ s.entered → Conserves t root s → Conserves t root s'
splits t sound root s s' n e here moves same c =
    let f = find n c.ordered (omega (arith, ordered_weigh t root s c (is_node n), is_itself n)) in
    let tiles : Tiles t root (f.0 ++ n ∷ f.1) = subst (Tiles t root) f.2 c.tiles in record {
      ordered = f.0 ++ (t.parts n).0 ∷ (t.parts n).1 ∷ f.1;
      same = from_weights s' (f.0 ++ (t.parts n).0 ∷ (t.parts n).1 ∷ f.1) (λ h. omega (arith, moves h, ordered_weigh t root s c h, ap (weigh h) f.2, weigh_split h f.0 f.1 n (t.parts n).0 (t.parts n).1));
      tiles = tiles_split t sound root f.0 f.1 n e tiles;
      entered = subst (AreLeaves t) (sym same) c.entered;
    }

-- ---- a step that moves a node
moves : (t : Rules) (root : Node) (s s' : State) → ((h : Node → ℕ) → weigh_all h s' ≡ weigh_all h s) → AreLeaves t s'.entered → Conserves t root s → Conserves t root s'
moves t root s s' same entered c =
    record { ordered = c.ordered; same = from_weights s' c.ordered (λ h. same h ∙ ordered_weigh t root s c h); tiles = c.tiles; entered = entered }

-- each node of a worker is valid
pub valid_one : (t : Rules) (root : Node) (s : State) (n : Node) → is_node n n ≤ weigh_all (is_node n) s → Conserves t root s → IsValid t n
valid_one t root s n here c =
    let f = find n c.ordered (omega (arith, ordered_weigh t root s c (is_node n), is_itself n)) in
    valid_at t f.0 f.1 n (recursion_from_All (IsValid t) (f.0 ++ n ∷ f.1) (subst (λ (ns : List Node). All (IsValid t) ns) f.2 c.tiles.valid))

entered_same : (h : Node → ℕ) (s s' : State) → s'.entered ≡ s.entered → weigh (λ (l : Leaf). h l.node) s'.entered ≡ weigh (λ (l : Leaf). h l.node) s.entered
entered_same h s s' e = ap (weigh (λ (l : Leaf). h l.node)) e

-- one worker goes by R: a node of its own moves, or the node in its hand is split
module _ (t : Rules) (root : Node) (s s' : State) (w : ℕ) (R : Holding → Holding → Type 0) (a : At w R s.workers s'.workers) where
  moves_one : ((h : Node → ℕ) → weigh_holding h a.new ≡ weigh_holding h a.old) → s'.entered ≡ s.entered → Conserves t root s → Conserves t root s'
  moves_one same e c = moves t root s s' (λ h. omega (arith, at_weigh (weigh_holding h) w R s.workers s'.workers a, same h, entered_same h s s' e)) (subst (AreLeaves t) (sym e) c.entered) c

splits_one : (t : Rules) → IsSound t → (root : Node) (s s' : State) (w : ℕ) (R : Holding → Holding → Type 0) (a : At w R s.workers s'.workers) (n : Node) → a.old.hand ≡ Some n → t.verdict n ≡ Split
    → ((h : Node → ℕ) → weigh_holding h a.new + h n ≡ weigh_holding h a.old + (h (t.parts n).0 + h (t.parts n).1)) → s'.entered ≡ s.entered → Conserves t root s → Conserves t root s'
splits_one t sound root s s' w R a n held split same e c =
    splits t sound root s s' n split
    (let hand = ap (weigh_hand (is_node n)) held in omega (arith, at_le (weigh_holding (is_node n)) w R s.workers s'.workers a))
    (λ h. omega (arith, at_weigh (weigh_holding h) w R s.workers s'.workers a, same h, entered_same h s s' e))
    e c

pub step_conserves : (t : Rules) → IsSound t → (root : Node) (s : State) (x : Step) (s' : State) → Steps t s x s' → Conserves t root s → Conserves t root s'
step_conserves t sound root s (Push w) s' p c = let d = p.0.goes in
    splits_one t sound root s s' w (Pushes t) p.0 d.node d.in_hand d.split (λ h. pushes_weigh t h p.0.old p.0.new d) p.1 c
step_conserves t sound root s (Keep w) s' p c = let d = p.0.goes in
    splits_one t sound root s s' w (Keeps t) p.0 d.node d.in_hand d.split (λ h. keeps_weigh t h p.0.old p.0.new d) p.1 c
step_conserves t sound root s (Pop w) s' p c = moves_one t root s s' w Pops p.0 (λ h. pops_weigh h p.0.old p.0.new p.0.goes) p.1 c
step_conserves t sound root s (TakeKept w) s' p c = moves_one t root s s' w TakesKept p.0 (λ h. takes_weigh h p.0.old p.0.new p.0.goes) p.1 c
step_conserves t sound root s (Steal w from) s' p c =
    moves t root s s' (λ h. omega (arith, steals_weigh h w from s.workers s'.workers p.0, entered_same h s s' p.1)) (subst (AreLeaves t) (sym p.1) c.entered) c
step_conserves t sound root s (Enter w) s' p c =
    let l : Leaf = p.0 in
    let a = p.1 in
    let d = a.goes in
    let hand = ap (weigh_hand (is_node d.node)) d.in_hand in
    let whole = at_le (weigh_holding (is_node d.node)) w (Enters t l) s.workers s'.workers a in
    let valid : IsValid t d.node = valid_one t root s d.node (omega arith) c in
    let one : IsLeaf t l = subst (IsLeaf t) (sym d.entered) (record { valid = valid; marked = d.marked }) in
    moves t root s s' (λ h. omega (
      arith,
      at_weigh (weigh_holding h) w (Enters t l) s.workers s'.workers a,
      enters_weigh t h l a.old a.new d,
      ap (weigh (λ (k : Leaf). h k.node)) p.2,
      weigh-push (λ (k : Leaf). h k.node) s.entered l,
    )) (subst (AreLeaves t) (sym p.2) (All-push (IsLeaf t) s.entered l c.entered one)) c

pub run_conserves : (t : Rules) → IsSound t → (root : Node) (xs : List Step) (s s' : State) → Runs t s xs s' → Conserves t root s → Conserves t root s'
run_conserves t sound root [] s s' r c = subst (Conserves t root) (sym r) c
run_conserves t sound root (x ∷ xs) s s' r c = run_conserves t sound root xs r.0 s' r.2 (step_conserves t sound root s x r.0 r.1 c)
