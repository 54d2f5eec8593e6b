-- Each step lowers what is left to do by one.
use Rattle.std.proofs.Common.{◌≡◌, ℕ, ◌+◌, ◌*◌, ◌-◌, ◌<◌, ◌≤◌, ℤ, ◌<ℤ◌, List, [], ◌∷◌, ◌++◌, length, ap, ◌∙◌, Some, option_to_list, length-append, arith}
use Rattle.std.proofs.lemmas.Int.{ints}
use Rattle.spec_trees.specs.declared.tree.Node.{Node}
use Rattle.spec_trees.specs.declared.tree.Leaf.{Leaf}
use Rattle.spec_trees.specs.declared.tree.Verdict.TheVariants.{Split}
use Rattle.spec_trees.specs.Tree.{Rules, IsValid, IsSound, Covers, leaf_count, leaves}
use Rattle.spec_trees.proofs.Covering.{leaves_cover}
use Rattle.spec_trees.proofs.Leaves.{leaves_settled, leaves_split}
use Rattle.pool_core.specs.declared.step.Step.{Step}
use Rattle.pool_core.specs.declared.step.Step.TheVariants.{Push, Keep, Pop, TakeKept, Steal, Enter}
use Rattle.pool_core.specs.States.{At, Holding, State, Pushes, Keeps, Pops, TakesKept, Gets, GivesUp, Enters, Steps, Runs}
use Rattle.pool_core.specs.Tiling.{Conserves, todo_of, todo}
use Rattle.spec_pool.proofs.Weights.{weigh, weigh-append, weigh-push, weigh-same, sum_is_weigh}
use Rattle.spec_pool.proofs.Finding.{is_node}
use Rattle.spec_pool.proofs.Hands.{weigh_hand, hand_weigh}
use Rattle.pool_core.proofs.Moving.{weigh_holding, at_weigh, at_le}
use Rattle.pool_core.proofs.Keeping.{valid_one, step_conserves}

nonempty : (l : List Leaf) (a b : ℤ) → Covers a l b → a <ℤ b → 0 < length l
nonempty [] a b c lt = absurd (omega (arith, ints))
nonempty (x ∷ l) a b c lt = omega arith

some_leaves : (t : Rules) → IsSound t → (n : Node) → IsValid t n → 0 < length (leaves t n)
some_leaves t s n v = nonempty (leaves t n) n.a n.b (leaves_cover t s n v) v.inside

abbrev in_hand : Rules → Node → ℕ
in_hand t n = 3 * leaf_count t n - 2

abbrev elsewhere : Rules → Node → ℕ
elsewhere t n = 3 * leaf_count t n - 1

-- what is left for a worker, as sums that compute
abbrev pub left_for : Rules → Holding → ℕ
left_for t x = weigh_hand (in_hand t) x.hand + weigh (elsewhere t) x.deque + weigh (elsewhere t) x.kept

todo_of_is : (t : Rules) (x : Holding) → todo_of t x ≡ left_for t x
todo_of_is t x =
    omega (
      arith,
      sum_is_weigh (in_hand t) (option_to_list x.hand),
      hand_weigh (in_hand t) x.hand,
      sum_is_weigh (elsewhere t) (x.deque ++ x.kept),
      weigh-append (elsewhere t) x.deque x.kept,
    )

pub todo_is : (t : Rules) (s : State) → todo t s ≡ weigh (left_for t) s.workers
todo_is t s = sum_is_weigh (todo_of t) s.workers ∙ weigh-same (todo_of t) (left_for t) s.workers (todo_of_is t)

split_length : (t : Rules) → IsSound t → (n : Node) → IsValid t n → t.verdict n ≡ Split → (in_hand t (t.parts n).0 + elsewhere t (t.parts n).1) + 1 ≡ in_hand t n
split_length t s n v e =
    let c = s.cut n v e in
    let l = some_leaves t s (t.parts n).0 c.left in
    let r = some_leaves t s (t.parts n).1 c.right in
    let sum = ap length (leaves_split t s n v e) ∙ length-append (leaves t (t.parts n).0) (leaves t (t.parts n).1) in
    omega arith

Falls : Rules → State → State → Type 0
Falls t s s' = weigh (left_for t) s'.workers + 1 ≡ weigh (left_for t) s.workers

-- a worker goes by R, and the node n is one of those that it had
valid_had : (t : Rules) (root : Node) (s s' : State) (w : ℕ) (R : Holding → Holding → Type 0) (a : At w R s.workers s'.workers) (n : Node) → is_node n n ≤ weigh_holding (is_node n) a.old → Conserves t root s → IsValid t n
valid_had t root s s' w R a n had c = valid_one t root s n (omega (arith, had, at_le (weigh_holding (is_node n)) w R s.workers s'.workers a)) c

-- the node in the hand is split, and its right part goes elsewhere
falls_split : (t : Rules) → IsSound t → (root : Node) (s s' : State) (w : ℕ) (R : Holding → Holding → Type 0) (a : At w R s.workers s'.workers) (n : Node) → a.old.hand ≡ Some n → t.verdict n ≡ Split
    → left_for t a.new ≡ in_hand t (t.parts n).0 + elsewhere t (t.parts n).1 + (weigh (elsewhere t) a.old.deque + weigh (elsewhere t) a.old.kept) → Conserves t root s → Falls t s s'
unfolding Falls
falls_split t sound root s s' w R a n held split new c =
    let v : IsValid t n = valid_had t root s s' w R a n (omega (arith, ap (weigh_hand (is_node n)) held)) c in
    omega (arith, at_weigh (left_for t) w R s.workers s'.workers a, split_length t sound n v split, new, ap (weigh_hand (in_hand t)) held)

-- a node that the worker had elsewhere comes into the hand
falls_taken : (t : Rules) → IsSound t → (root : Node) (s s' : State) (w : ℕ) (R : Holding → Holding → Type 0) (a : At w R s.workers s'.workers) (n : Node) → is_node n n ≤ weigh_holding (is_node n) a.old
    → left_for t a.new + elsewhere t n ≡ left_for t a.old + in_hand t n → Conserves t root s → Falls t s s'
unfolding Falls
falls_taken t sound root s s' w R a n had new c =
    omega (arith, at_weigh (left_for t) w R s.workers s'.workers a, some_leaves t sound n (valid_had t root s s' w R a n had c), new)

step_falls_in : (t : Rules) → IsSound t → (root : Node) (s : State) (x : Step) (s' : State) → Steps t s x s' → Conserves t root s → Falls t s s'
unfolding Falls
step_falls_in t sound root s (Push w) s' p c = let d = p.0.goes in
    falls_split t sound root s s' w (Pushes t) p.0 d.node d.in_hand d.split (omega (arith, ap (left_for t) d.after, weigh-push (elsewhere t) p.0.old.deque (t.parts d.node).1)) c
step_falls_in t sound root s (Keep w) s' p c = let d = p.0.goes in
    falls_split t sound root s s' w (Keeps t) p.0 d.node d.in_hand d.split (omega (arith, ap (left_for t) d.after, weigh-push (elsewhere t) p.0.old.kept (t.parts d.node).1)) c
step_falls_in t sound root s (Pop w) s' p c = let d = p.0.goes in
    falls_taken t sound root s s' w Pops p.0 d.node
    (let here = ap (weigh (is_node d.node)) d.front in omega arith)
    (omega (arith, ap (left_for t) d.after, ap (weigh_hand (in_hand t)) d.empty, ap (weigh (elsewhere t)) d.front)) c
step_falls_in t sound root s (TakeKept w) s' p c = let d = p.0.goes in
    falls_taken t sound root s s' w TakesKept p.0 d.node
    (let here = ap (weigh (is_node d.node)) d.top ∙ weigh-push (is_node d.node) d.rest d.node in omega arith)
    (omega (arith, ap (left_for t) d.after, ap (weigh_hand (in_hand t)) d.empty, ap (weigh (elsewhere t)) d.top, weigh-push (elsewhere t) d.rest d.node)) c
step_falls_in t sound root s (Steal w from) s' p c =
    let give = p.0.gives in
    let get = p.0.gets in
    let n : Node = p.0.node in
    let here = ap (weigh (is_node n)) give.goes.front in
    let v : IsValid t n = valid_one t root s n (omega (arith, at_le (weigh_holding (is_node n)) from (GivesUp n) s.workers p.0.between give)) c in
    omega (
      arith,
      at_weigh (left_for t) from (GivesUp n) s.workers p.0.between give,
      at_weigh (left_for t) w (Gets n) p.0.between s'.workers get,
      some_leaves t sound n v,
      ap (left_for t) give.goes.after,
      ap (weigh (elsewhere t)) give.goes.front,
      ap (left_for t) get.goes.after,
      ap (weigh_hand (in_hand t)) get.goes.empty,
    )
step_falls_in t sound root s (Enter w) s' p c =
    let a = p.1 in
    let d = a.goes in
    let v : IsValid t d.node = valid_had t root s s' w (Enters t p.0) a d.node (omega (arith, ap (weigh_hand (is_node d.node)) d.in_hand)) c in
    omega (
      arith,
      at_weigh (left_for t) w (Enters t p.0) s.workers s'.workers a,
      ap length (leaves_settled t sound d.node v d.mark d.marked),
      ap (left_for t) d.after,
      ap (weigh_hand (in_hand t)) d.in_hand,
    )

pub step_falls : (t : Rules) → IsSound t → (root : Node) (s : State) (x : Step) (s' : State) → Steps t s x s' → Conserves t root s → todo t s' + 1 ≡ todo t s
unfolding Falls
step_falls t sound root s x s' p c = omega (arith, todo_is t s, todo_is t s', step_falls_in t sound root s x s' p c)

pub run_falls : (t : Rules) → IsSound t → (root : Node) (xs : List Step) (s s' : State) → Runs t s xs s' → Conserves t root s → todo t s' + length xs ≡ todo t s
run_falls t sound root [] s s' r c = omega (arith, ap (todo t) r)
run_falls t sound root (x ∷ xs) s s' r c =
    omega (arith, step_falls t sound root s x r.0 r.1 c, run_falls t sound root xs r.0 s' r.2 (step_conserves t sound root s x r.0 r.1 c))
