-- A pool in which some worker holds a node accepts a step, and one in which none does has entered all leaves.
use Rattle.std.proofs.Common.{◌≡◌, ℕ, suc, ◌+◌, ◌⊎◌, inl, inr, List, [], ◌∷◌, ◌++◌, Option, Some, None, slice_get, slice_set, refl, sym, ap, ◌∙◌, subst, arith}
use Rattle.std.proofs.lemmas.List.Elements.{All-from_recursion, recursion_from_All}
use Rattle.std.specs.List.{AllByRecursion}
use Rattle.spec_trees.specs.declared.tree.Node.{Node}
use Rattle.spec_trees.specs.declared.tree.Leaf.{Leaf}
use Rattle.spec_trees.specs.declared.tree.Mark.{Mark}
use Rattle.spec_trees.specs.Tree.{Rules, IsValid, IsSound, IsLeaf, mark_of, leaf_of, leaves}
use Rattle.spec_trees.specs.Order.{in_order}
use Rattle.spec_trees.proofs.Leaves.{no_mark, leaves_settled}
use Rattle.spec_trees.proofs.Covering.{leaves_cover}
use Rattle.spec_trees.proofs.Rearranged.{rearranged_in_order}
use Rattle.pool_core.specs.declared.step.Step.{Step}
use Rattle.pool_core.specs.declared.step.Step.TheVariants.{Push, Pop, TakeKept, Enter}
use Rattle.pool_core.specs.States.{Holding, holding, nothing, State, state, Pushes, Pops, TakesKept, Enters, At, Steps}
use Rattle.pool_core.specs.Tiling.{Conserves, todo, IsDone}
use Rattle.spec_pool.proofs.Weights.{weigh, weigh-flat}
use Rattle.spec_pool.proofs.Finding.{leaves_permuted}
use Rattle.pool_core.proofs.Moving.{weigh_holding}
use Rattle.pool_core.proofs.Keeping.{ordered_weigh}
use Rattle.pool_core.proofs.Falling.{left_for, todo_is, step_falls}

-- a list that is not empty has a last element
last : (n : Node) (ns : List Node) → (m : Node) × (rest : List Node) × (n ∷ ns ≡ rest ++ m ∷ [])
last n [] = (n, [], refl)
last n (m ∷ ns) = let r = last m ns in (r.0, n ∷ r.1, ap (λ (l : List Node). n ∷ l) r.2)

abbrev pub Accepts : Rules → State → Type 0
Accepts t s = (x : Step) × (s' : State) × Steps t s x s'

-- ---- one worker
by_hand : (t : Rules) (s : State) (w : ℕ) (x : Holding) → slice_get s.workers w ≡ Some x → (n : Node) → x.hand ≡ Some n → (m : Option Mark) → mark_of (t.verdict n) ≡ m → Accepts t s
by_hand t s w x at n e (Some m) is =
    let y : Holding = holding None x.deque x.kept in
    let enters : Enters t (leaf_of n m) x y = record { node = n; mark = m; in_hand = e; marked = is; entered = refl; after = refl } in
    let here : At w (Enters t (leaf_of n m)) s.workers (slice_set s.workers w y) = record { old = x; new = y; here = at; goes = enters; others = refl } in
    (Enter w, state (slice_set s.workers w y) (s.entered ++ leaf_of n m ∷ []), (leaf_of n m, here, refl))
by_hand t s w x at n e None is =
    let y : Holding = holding (Some (t.parts n).0) (x.deque ++ (t.parts n).1 ∷ []) x.kept in
    let pushes : Pushes t x y = record { node = n; in_hand = e; split = no_mark (t.verdict n) is; after = refl } in
    let here : At w (Pushes t) s.workers (slice_set s.workers w y) = record { old = x; new = y; here = at; goes = pushes; others = refl } in
    (Push w, state (slice_set s.workers w y) s.entered, (here, refl))

by_deque : (t : Rules) (s : State) (w : ℕ) (x : Holding) → slice_get s.workers w ≡ Some x → x.hand ≡ None → (n : Node) (rest : List Node) → x.deque ≡ n ∷ rest → Accepts t s
by_deque t s w x at e n rest is =
    let y : Holding = holding (Some n) rest x.kept in
    let pops : Pops x y = record { node = n; rest = rest; empty = e; front = is; after = refl } in
    let here : At w Pops s.workers (slice_set s.workers w y) = record { old = x; new = y; here = at; goes = pops; others = refl } in
    (Pop w, state (slice_set s.workers w y) s.entered, (here, refl))

by_kept : (t : Rules) (s : State) (w : ℕ) (x : Holding) → slice_get s.workers w ≡ Some x → x.hand ≡ None → (n : Node) (rest : List Node) → x.kept ≡ rest ++ n ∷ [] → Accepts t s
by_kept t s w x at e n rest is =
    let y : Holding = holding (Some n) x.deque rest in
    let takes : TakesKept x y = record { node = n; rest = rest; empty = e; top = is; after = refl } in
    let here : At w TakesKept s.workers (slice_set s.workers w y) = record { old = x; new = y; here = at; goes = takes; others = refl } in
    (TakeKept w, state (slice_set s.workers w y) s.entered, (here, refl))

by_empty : (t : Rules) (s : State) (w : ℕ) (x : Holding) → slice_get s.workers w ≡ Some x → x.hand ≡ None → (d : List Node) → x.deque ≡ d → (k : List Node) → x.kept ≡ k → (x ≡ nothing) ⊎ Accepts t s
by_empty t s w x at e (n ∷ rest) is k is' = inr (by_deque t s w x at e n rest is)
by_empty t s w x at e [] is (n ∷ ns) is' = let l = last n ns in inr (by_kept t s w x at e l.0 l.1 (is' ∙ l.2))
by_empty t s w x at e [] is [] is' = inl (λ i. record { hand = e i; deque = is i; kept = is' i })

by_worker : (t : Rules) (s : State) (w : ℕ) (x : Holding) → slice_get s.workers w ≡ Some x → (hand : Option Node) → x.hand ≡ hand → (x ≡ nothing) ⊎ Accepts t s
by_worker t s w x at (Some n) e = inr (by_hand t s w x at n e (mark_of (t.verdict n)) refl)
by_worker t s w x at None e = by_empty t s w x at e x.deque refl x.kept refl

-- ---- all workers
abbrev AllEmpty : List Holding → Type 0
AllEmpty xs = AllByRecursion (λ x. x ≡ nothing) xs

or_all : {P : Type 0} (x : Holding) (xs : List Holding) → (x ≡ nothing) ⊎ P → AllEmpty xs ⊎ P → AllEmpty (x ∷ xs) ⊎ P
or_all x xs (inr p) q = inr p
or_all x xs (inl e) (inr p) = inr p
or_all x xs (inl e) (inl all) = inl (e, all)

-- the workers from the k-th on
from_worker : (t : Rules) (s : State) (xs : List Holding) (k : ℕ) → ((i j : ℕ) (x : Holding) → j ≡ i + k → slice_get xs i ≡ Some x → slice_get s.workers j ≡ Some x) → AllEmpty xs ⊎ Accepts t s
from_worker t s [] k at = inl tt
from_worker t s (x ∷ xs) k at =
    or_all x xs (by_worker t s k x (at 0 k x (omega arith) refl) x.hand refl) (from_worker t s xs (suc k) (λ i j y n e. at (suc i) j y (omega arith) e))

pub progress : (t : Rules) (s : State) → IsDone s ⊎ Accepts t s
progress t s =
    let found = from_worker t s s.workers 0 (λ i j x n e. let m : j ≡ i = omega arith in subst (λ (j : ℕ). slice_get s.workers j ≡ Some x) (sym m) e) in
    elim found [
      | inl all ↦ inl (All-from_recursion (λ x. x ≡ nothing) s.workers all)
      | inr r ↦ inr r
    ]

-- ---- the end
no_weight_in : (f : Holding → ℕ) (xs : List Holding) → f nothing ≡ 0 → AllEmpty xs → weigh f xs ≡ 0
no_weight_in f [] z all = refl
no_weight_in f (x ∷ xs) z all = omega (arith, ap f all.0, no_weight_in f xs z all.1)

no_weight : (f : Holding → ℕ) (s : State) → f nothing ≡ 0 → IsDone s → weigh f s.workers ≡ 0
no_weight f s z done = no_weight_in f s.workers z (recursion_from_All (λ x. x ≡ nothing) s.workers done)

pub done_is_zero : (t : Rules) (s : State) → IsDone s → todo t s ≡ 0
done_is_zero t s done = todo_is t s ∙ no_weight (left_for t) s refl done

pub zero_is_done : (t : Rules) → IsSound t → (root : Node) (s : State) → Conserves t root s → todo t s ≡ 0 → IsDone s
zero_is_done t sound root s c z = elim (progress t s) [
  | inl all ↦ all
  | inr r ↦ absurd (let f = step_falls t sound root s r.0 r.1 r.2 c in omega arith)
]

-- each entered leaf is the one leaf of its node
entered_weigh : (t : Rules) → IsSound t → (h : Leaf → ℕ) (ls : List Leaf) → AllByRecursion (IsLeaf t) ls → weigh (λ l. weigh h (leaves t l.node)) ls ≡ weigh h ls
entered_weigh t sound h [] a = refl
entered_weigh t sound h (l ∷ ls) a =
    omega (arith, ap (weigh h) (leaves_settled t sound l.node a.0.valid l.mark a.0.marked), entered_weigh t sound h ls a.1)

-- once nothing is held, the entered leaves are those of the root, as multisets
entered_all : (t : Rules) → IsSound t → (root : Node) (s : State) → Conserves t root s → IsDone s → (h : Leaf → ℕ) → weigh h s.entered ≡ weigh h (leaves t root)
entered_all t sound root s c done h =
    let f : Node → ℕ = λ n. weigh h (leaves t n) in
    omega (
      arith,
      ordered_weigh t root s c f,
      no_weight (weigh_holding f) s refl done,
      entered_weigh t sound h s.entered (recursion_from_All (IsLeaf t) s.entered c.entered),
      weigh-flat (leaves t) h c.ordered,
      ap (weigh h) c.tiles.joined,
    )

pub done_in_order : (t : Rules) → IsSound t → (root : Node) → IsValid t root → (s : State) → Conserves t root s → IsDone s → in_order s.entered ≡ leaves t root
done_in_order t sound root v s c done =
    rearranged_in_order root.a root.b s.entered (leaves t root) (leaves_permuted s.entered (leaves t root) (entered_all t sound root s c done)) (leaves_cover t sound root v)
