-- Accounts that change as the steps say balance, over every run.
use Rattle.std.proofs.Common.{◌≡◌, ℕ, zero, suc, ◌+◌, ◌⊎◌, inl, inr, List, [], ◌∷◌, ◌++◌, map, All, Some, slice_get, slice_set, append_assoc, refl, sym, ap, ◌∙◌, subst, arith}
use Rattle.std.proofs.lemmas.List.{append-nil}
use Rattle.std.proofs.lemmas.List.Elements.{All-from_recursion, recursion_from_All}
use Rattle.std.specs.List.{AllByRecursion}
use Rattle.spec_trees.specs.declared.tree.Node.{Node}
use Rattle.spec_trees.specs.declared.tree.Leaf.{Leaf}
use Rattle.spec_trees.specs.declared.tree.Verdict.TheVariants.{Split}
use Rattle.spec_trees.specs.Tree.{Rules, IsValid, IsSound, leaf_of, leaves}
use Rattle.spec_trees.proofs.Leaves.{leaves_settled, leaves_split}
use Rattle.spec_pool.specs.Accounts.{Account, Balances, EntersNode, KeepsRight, PutsRight, TakesNode, TakesTop}
use Rattle.spec_pool.proofs.Balancing.{by_leaves, no_work, one_after_another, own_weight, piece}
use Rattle.spec_pool.proofs.Finding.{is_node}
use Rattle.spec_pool.proofs.Hands.{weigh_hand}
use Rattle.spec_pool.proofs.Weights.{weigh, weigh-append, weigh-push, weigh-get}
use Rattle.pool_core.specs.declared.step.Step.{Step}
use Rattle.pool_core.specs.declared.step.Step.TheVariants.{Push, Keep, Pop, TakeKept, Steal, Enter}
use Rattle.pool_core.specs.States.{Holding, State, At, Runs}
use Rattle.pool_core.specs.Tiling.{Conserves}
use Rattle.pool_core.specs.Accounted.{Accounted, Accounts, AllAccounted, AllBalance, AreAccounts, Deque, GainsBack, IsBalanced, LosesFront}
use Rattle.pool_core.proofs.Moving.{weigh_holding}
use Rattle.pool_core.proofs.Keeping.{valid_one, step_conserves}
use Rattle.pool_core.proofs.Accounting.{step_changes, seen_same, hand_of, held_hand}

-- ---- each change of a worker's account
abbrev pub HandIsValid : Rules → Account → Type 0
HandIsValid t a = (n : Node) → a.hand ≡ Some n → IsValid t n

split_weigh : (t : Rules) → IsSound t → (n : Node) → IsValid t n → t.verdict n ≡ Split → (h : Leaf → ℕ) → by_leaves t h n ≡ by_leaves t h (t.parts n).0 + by_leaves t h (t.parts n).1
split_weigh t sound n v e h = ap (weigh h) (leaves_split t sound n v e) ∙ weigh-append h (leaves t (t.parts n).0) (leaves t (t.parts n).1)

puts_balance : (t : Rules) → IsSound t → (n : Node) (a b : Account) → HandIsValid t a → PutsRight t n a b → Balances t a b
puts_balance t sound n a b valid p =
    piece t a b (n ∷ []) [] [] (ap (λ (c : Account). c.put) p.after) (ap (λ (c : Account). c.taken) p.after ∙ sym (append-nil a.taken)) (ap (λ (c : Account). c.entered) p.after ∙ sym (append-nil a.entered))
    (λ h. omega (
      arith,
      split_weigh t sound p.node (valid p.node p.in_hand) p.split h,
      ap (own_weight t h) p.after,
      ap (weigh_hand (by_leaves t h)) p.in_hand,
      ap (by_leaves t h) p.part,
    ))

keeps_balance : (t : Rules) → IsSound t → (a b : Account) → HandIsValid t a → KeepsRight t a b → Balances t a b
keeps_balance t sound a b valid p =
    piece t a b [] [] [] (ap (λ (c : Account). c.put) p.after ∙ sym (append-nil a.put)) (ap (λ (c : Account). c.taken) p.after ∙ sym (append-nil a.taken)) (ap (λ (c : Account). c.entered) p.after ∙ sym (append-nil a.entered))
    (λ h. omega (
      arith,
      split_weigh t sound p.node (valid p.node p.in_hand) p.split h,
      ap (own_weight t h) p.after,
      ap (weigh_hand (by_leaves t h)) p.in_hand,
      weigh-push (by_leaves t h) a.kept (t.parts p.node).1,
    ))

takes_balance : (t : Rules) (n : Node) (a b : Account) → TakesNode n a b → Balances t a b
takes_balance t n a b p =
    piece t a b [] (n ∷ []) [] (ap (λ (c : Account). c.put) p.after ∙ sym (append-nil a.put)) (ap (λ (c : Account). c.taken) p.after) (ap (λ (c : Account). c.entered) p.after ∙ sym (append-nil a.entered))
    (λ h. omega (arith, ap (own_weight t h) p.after, ap (weigh_hand (by_leaves t h)) p.empty))

top_balance : (t : Rules) (a b : Account) → TakesTop a b → Balances t a b
top_balance t a b p =
    piece t a b [] [] [] (ap (λ (c : Account). c.put) p.after ∙ sym (append-nil a.put)) (ap (λ (c : Account). c.taken) p.after ∙ sym (append-nil a.taken)) (ap (λ (c : Account). c.entered) p.after ∙ sym (append-nil a.entered))
    (λ h. omega (
      arith,
      ap (own_weight t h) p.after,
      ap (weigh_hand (by_leaves t h)) p.empty,
      ap (weigh (by_leaves t h)) p.top,
      weigh-push (by_leaves t h) p.rest p.node,
    ))

enters_balance : (t : Rules) → IsSound t → (a b : Account) → HandIsValid t a → EntersNode t a b → Balances t a b
enters_balance t sound a b valid p =
    piece t a b [] [] (leaf_of p.node p.mark ∷ []) (ap (λ (c : Account). c.put) p.after ∙ sym (append-nil a.put)) (ap (λ (c : Account). c.taken) p.after ∙ sym (append-nil a.taken)) (ap (λ (c : Account). c.entered) p.after)
    (λ h. omega (
      arith,
      ap (weigh h) (leaves_settled t sound p.node (valid p.node p.in_hand) p.mark p.marked),
      ap (own_weight t h) p.after,
      ap (weigh_hand (by_leaves t h)) p.in_hand,
    ))

-- ---- the deques
gains_balance : (n : Node) (q r : Deque) → GainsBack n q r → IsBalanced q → IsBalanced r
gains_balance n q r p e =
    ap (λ (d : Deque). d.put) p.after
    ∙ (ap (λ (l : List Node). l ++ n ∷ []) e ∙ append_assoc q.taken q.items (n ∷ []))
    ∙ sym (ap (λ (d : Deque). d.taken ++ d.items) p.after)

loses_balance : (n : Node) (q r : Deque) → LosesFront n q r → IsBalanced q → IsBalanced r
loses_balance n q r p e =
    ap (λ (d : Deque). d.put) p.after
    ∙ (e ∙ (ap (λ (l : List Node). q.taken ++ l) p.front ∙ sym (append_assoc q.taken (n ∷ []) p.rest)))
    ∙ sym (ap (λ (d : Deque). d.taken ++ d.items) p.after)

-- ---- one of a list changes
module _ {A : Type 0} where
  each_get : (P : A → Type 0) (xs : List A) (w : ℕ) (x : A) → AllByRecursion P xs → slice_get xs w ≡ Some x → P x
  each_get P [] w x all at = absurd cc
  each_get P (y ∷ xs) zero x all at = let same : y ≡ x = cc in subst P same all.0
  each_get P (y ∷ xs) (suc w) x all at = each_get P xs w x all.1 at

  each_set : (P : A → Type 0) (xs : List A) (w : ℕ) (y : A) → P y → AllByRecursion P xs → AllByRecursion P (slice_set xs w y)
  each_set P [] w y p all = tt
  each_set P (x ∷ xs) zero y p all = (p, all.1)
  each_set P (x ∷ xs) (suc w) y p all = (all.0, each_set P xs w y p all.1)

  -- what the element at w is after the change, and what the others are
  after_set : (xs : List A) (k w : ℕ) (x y a : A) → slice_get xs w ≡ Some x → slice_get xs k ≡ Some a → ((a ≡ x) × (slice_get (slice_set xs w y) k ≡ Some y)) ⊎ (slice_get (slice_set xs w y) k ≡ Some a)
  after_set [] k w x y a at here = absurd cc
  after_set (z ∷ xs) zero zero x y a at here = inl (cc, refl)
  after_set (z ∷ xs) (suc k) zero x y a at here = inr here
  after_set (z ∷ xs) zero (suc w) x y a at here = inr here
  after_set (z ∷ xs) (suc k) (suc w) x y a at here = after_set xs k w x y a at here

abbrev WorkersBalance : Rules → List Account → List Account → Type 0
WorkersBalance t xs ys = (w : ℕ) (a : Account) → slice_get xs w ≡ Some a → (b : Account) × (slice_get ys w ≡ Some b) × Balances t a b

abbrev DequesBalance : List Deque → List Deque → Type 0
DequesBalance qs rs = All IsBalanced qs → All IsBalanced rs

at_balance : (t : Rules) (R : Account → Account → Type 0) (w : ℕ) (xs ys : List Account) → ((a b : Account) → slice_get xs w ≡ Some a → R a b → Balances t a b) → At w R xs ys → WorkersBalance t xs ys
at_balance t R w xs ys each p k a here =
    subst (λ (l : List Account). (b : Account) × (slice_get l k ≡ Some b) × Balances t a b) (sym p.others)
    (by (after_set xs k w p.old p.new a p.here here))
  where
    by : ((a ≡ p.old) × (slice_get (slice_set xs w p.new) k ≡ Some p.new)) ⊎ (slice_get (slice_set xs w p.new) k ≡ Some a) → (b : Account) × (slice_get (slice_set xs w p.new) k ≡ Some b) × Balances t a b
    by (inl e) = (p.new, e.1, subst (λ (z : Account). Balances t z p.new) (sym e.0) (each p.old p.new p.here p.goes))
    by (inr e) = (a, e, no_work t a)

at_deque : (R : Deque → Deque → Type 0) (w : ℕ) (qs rs : List Deque) → ((q r : Deque) → R q r → IsBalanced q → IsBalanced r) → At w R qs rs → DequesBalance qs rs
at_deque R w qs rs each p all =
    let every = recursion_from_All IsBalanced qs all in
    let old : IsBalanced p.old = each_get IsBalanced qs w p.old every p.here in
    subst (λ (l : List Deque). All IsBalanced l) (sym p.others)
    (All-from_recursion IsBalanced (slice_set qs w p.new) (each_set IsBalanced qs w p.new (each p.old p.new p.goes old) every))

same_deques : (qs rs : List Deque) → rs ≡ qs → DequesBalance qs rs
same_deques qs rs e all = subst (λ (l : List Deque). All IsBalanced l) (sym e) all

-- ---- each step, and each run
-- the hands of all workers are valid
abbrev HandsValid : Rules → Accounts → Type 0
HandsValid t c = (w : ℕ) (a : Account) → slice_get c.workers w ≡ Some a → HandIsValid t a

step_balances : (t : Rules) → IsSound t → (x : Step) (c d : Accounts) → HandsValid t c → Accounted t x c d → AllBalance t c d
step_balances t sound (Push w) c d valid p = record {
  workers = at_balance t (PutsRight t p.0) w c.workers d.workers (λ a b at. puts_balance t sound p.0 a b (valid w a at)) p.1;
  deques = at_deque (GainsBack p.0) w c.deques d.deques (gains_balance p.0) p.2;
}
step_balances t sound (Keep w) c d valid p = record {
  workers = at_balance t (KeepsRight t) w c.workers d.workers (λ a b at. keeps_balance t sound a b (valid w a at)) p.0;
  deques = same_deques c.deques d.deques p.1;
}
step_balances t sound (Pop w) c d valid p = record {
  workers = at_balance t (TakesNode p.0) w c.workers d.workers (λ a b at. takes_balance t p.0 a b) p.1;
  deques = at_deque (LosesFront p.0) w c.deques d.deques (loses_balance p.0) p.2;
}
step_balances t sound (TakeKept w) c d valid p = record {
  workers = at_balance t TakesTop w c.workers d.workers (λ a b at. top_balance t a b) p.0;
  deques = same_deques c.deques d.deques p.1;
}
step_balances t sound (Steal w from) c d valid p = record {
  workers = at_balance t (TakesNode p.0) w c.workers d.workers (λ a b at. takes_balance t p.0 a b) p.1;
  deques = at_deque (LosesFront p.0) from c.deques d.deques (loses_balance p.0) p.2;
}
step_balances t sound (Enter w) c d valid p = record {
  workers = at_balance t (EntersNode t) w c.workers d.workers (λ a b at. enters_balance t sound a b (valid w a at)) p.0;
  deques = same_deques c.deques d.deques p.1;
}

-- a list as long as another has an element wherever that has one
beside_workers : (xs : List Account) (ys : List Holding) (w : ℕ) (a : Account) → map hand_of xs ≡ map held_hand ys → slice_get xs w ≡ Some a → (y : Holding) × (slice_get ys w ≡ Some y)
beside_workers [] ys w a e at = absurd cc
beside_workers (x ∷ xs) [] w a e at = absurd cc
beside_workers (x ∷ xs) (y ∷ ys) zero a e at = (y, refl)
beside_workers (x ∷ xs) (y ∷ ys) (suc w) a e at = let rest : map hand_of xs ≡ map held_hand ys = cc in beside_workers xs ys w a rest at

hands_valid : (t : Rules) (root : Node) (s : State) (c : Accounts) → Conserves t root s → AreAccounts s c → HandsValid t c
hands_valid t root s c kept m w a at n e =
    let y = beside_workers c.workers s.workers w a m.hands at in
    let same : a.hand ≡ y.0.hand = seen_same hand_of held_hand c.workers s.workers w a y.0 m.hands at y.1 in
    let hand : weigh_hand (is_node n) y.0.hand ≡ is_node n n = ap (weigh_hand (is_node n)) (sym same ∙ e) in
    let whole = weigh-get (weigh_holding (is_node n)) s.workers w y.0 y.1 in
    valid_one t root s n (omega arith) kept

joined : (t : Rules) (c d e : Accounts) → AllBalance t c d → AllBalance t d e → AllBalance t c e
joined t c d e p q = record {
  workers = λ w a at.
      let b = p.workers w a at in
      let last = q.workers w b.0 b.1 in
      (last.0, last.1, one_after_another t a b.0 last.0 b.2 last.2);
  deques = λ all. q.deques (p.deques all);
}

abbrev pub RunAccounted : Rules → List Step → State → Accounts → Type 0
RunAccounted t xs s' c = (d : Accounts) × AllAccounted t xs c d × AreAccounts s' d × AllBalance t c d

pub run_balances : (t : Rules) → IsSound t → (root : Node) (s : State) (xs : List Step) (s' : State) (c : Accounts) → Conserves t root s → AreAccounts s c → Runs t s xs s' → RunAccounted t xs s' c
run_balances t sound root s [] s' c kept m r =
    (c, refl, subst (λ (z : State). AreAccounts z c) (sym r) m, record { workers = λ w a at. (a, at, no_work t a); deques = λ all. all })
run_balances t sound root s (x ∷ xs) s' c kept m r =
    let one = step_changes t s x r.0 c r.1 m in
    let first = step_balances t sound x c one.0 (hands_valid t root s c kept m) one.1 in
    let rest = run_balances t sound root r.0 xs s' one.0 (step_conserves t sound root s x r.0 r.1 kept) one.2 r.2 in
    (rest.0, (one.0, one.1, rest.1), rest.2, joined t c one.0 rest.0 first rest.3)
