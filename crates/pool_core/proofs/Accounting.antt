-- Each step changes the accounts as they say, and accounts balance.
use Rattle.std.proofs.Common.{◌≡◌, ℕ, zero, suc, List, [], ◌∷◌, ◌++◌, map, Option, Some, None, slice_get, slice_set, refl, sym, ap, ◌∙◌}
use Rattle.spec_trees.specs.declared.tree.Node.{Node}
use Rattle.spec_trees.specs.Tree.{Rules, leaf_of}
use Rattle.pool_core.specs.declared.step.Step.{Step}
use Rattle.pool_core.specs.declared.step.Step.TheVariants.{Push, Keep, Pop, TakeKept, Steal, Enter}
use Rattle.pool_core.specs.States.{Holding, State, At, Steps}
use Rattle.spec_pool.specs.Accounts.{Account, EntersNode, KeepsRight, PutsRight, TakesNode, TakesTop}
use Rattle.pool_core.specs.Accounted.{Accounted, Accounts, AreAccounts, Deque, GainsBack, LosesFront}

pub same_set : {A : Type 0} (xs : List A) (k : ℕ) (x : A) → slice_get xs k ≡ Some x → slice_set xs k x ≡ xs
same_set [] k x e = refl
same_set {A = A} (y ∷ xs) zero x e = let same : x ≡ y = cc in ap (λ (z : A). z ∷ xs) same
same_set {A = A} (y ∷ xs) (suc k) x e = ap (λ (l : List A). y ∷ l) (same_set xs k x e)

-- ---- lists that agree by what is seen of their elements
module _ {A B C : Type 0} (f : A → C) (g : B → C) where
  -- the element beside one
  beside : (cs : List A) (xs : List B) (w : ℕ) (x : B) → map f cs ≡ map g xs → slice_get xs w ≡ Some x → (a : A) × (slice_get cs w ≡ Some a) × (f a ≡ g x)
  beside [] [] w x e at = absurd cc
  beside [] (y ∷ xs) w x e at = absurd cc
  beside (c ∷ cs) [] w x e at = absurd cc
  beside (c ∷ cs) (y ∷ xs) zero x e at =
      let first : f c ≡ g y = cc in
      let same : y ≡ x = cc in
      (c, refl, first ∙ ap g same)
  beside (c ∷ cs) (y ∷ xs) (suc w) x e at = let rest : map f cs ≡ map g xs = cc in beside cs xs w x rest at

  -- what is seen of two that stand at one place
  pub seen_same : (cs : List A) (xs : List B) (w : ℕ) (a : A) (x : B) → map f cs ≡ map g xs → slice_get cs w ≡ Some a → slice_get xs w ≡ Some x → f a ≡ g x
  seen_same cs xs w a x e here at =
      let found = beside cs xs w x e at in
      let same : found.0 ≡ a = cc (found.1, here) in
      sym (ap f same) ∙ found.2

  set_both : (cs : List A) (xs : List B) (w : ℕ) (b : A) (y : B) → map f cs ≡ map g xs → f b ≡ g y → map f (slice_set cs w b) ≡ map g (slice_set xs w y)
  set_both [] [] w b y e same = refl
  set_both [] (x ∷ xs) w b y e same = absurd cc
  set_both (c ∷ cs) [] w b y e same = absurd cc
  set_both (c ∷ cs) (x ∷ xs) zero b y e same = let rest : map f cs ≡ map g xs = cc in λ i. same i ∷ rest i
  set_both (c ∷ cs) (x ∷ xs) (suc w) b y e same =
      let first : f c ≡ g x = cc in
      let rest : map f cs ≡ map g xs = cc in
      λ i. first i ∷ set_both cs xs w b y rest same i

  -- where what is seen of the changed element stays
  set_one : (cs : List A) (xs : List B) (w : ℕ) (x y : B) → map f cs ≡ map g xs → slice_get xs w ≡ Some x → g y ≡ g x → map f cs ≡ map g (slice_set xs w y)
  set_one cs xs w x y e at same =
      let one = beside cs xs w x e at in
      ap (map f) (sym (same_set cs w one.0 one.1)) ∙ set_both cs xs w one.0 y e (one.2 ∙ sym same)

-- ---- each step changes the accounts
abbrev pub hand_of : Account → Option Node
hand_of a = a.hand

abbrev kept_of : Account → List Node
kept_of a = a.kept

abbrev items_of : Deque → List Node
items_of q = q.items

abbrev pub held_hand : Holding → Option Node
held_hand x = x.hand

abbrev held_kept : Holding → List Node
held_kept x = x.kept

abbrev held_deque : Holding → List Node
held_deque x = x.deque

abbrev accounts : List Account → List Deque → Accounts
accounts ws qs = record { workers = ws; deques = qs }

abbrev pub Changed : Rules → Step → State → Accounts → Type 0
Changed t x s' c = (d : Accounts) × Accounted t x c d × AreAccounts s' d

-- the account of the worker that takes a step
record OfWorker (c : Accounts) (w : ℕ) (x : Holding) : Type 0 where
  account : Account
  here : slice_get c.workers w ≡ Some account
  hand : account.hand ≡ x.hand
  kept : account.kept ≡ x.kept

of_worker : (s : State) (c : Accounts) (w : ℕ) (x : Holding) → AreAccounts s c → slice_get s.workers w ≡ Some x → OfWorker c w x
of_worker s c w x m at =
    let found = beside hand_of held_hand c.workers s.workers w x m.hands at in record {
      account = found.0;
      here = found.1;
      hand = found.2;
      kept = seen_same kept_of held_kept c.workers s.workers w found.0 x m.kept found.1 at;
    }

module _ (s s' : State) (c : Accounts) (m : AreAccounts s c) (w : ℕ) (x y : Holding) (at : slice_get s.workers w ≡ Some x) (others : s'.workers ≡ slice_set s.workers w y) where
  -- one worker's account changed, and perhaps the deque's beside it
  with_both : (b : Account) (r : Deque) → b.hand ≡ y.hand → b.kept ≡ y.kept → r.items ≡ y.deque → AreAccounts s' (accounts (slice_set c.workers w b) (slice_set c.deques w r))
  with_both b r hand kept items = record {
    hands = set_both hand_of held_hand c.workers s.workers w b y m.hands hand ∙ ap (map held_hand) (sym others);
    kept = set_both kept_of held_kept c.workers s.workers w b y m.kept kept ∙ ap (map held_kept) (sym others);
    deques = set_both items_of held_deque c.deques s.workers w r y m.deques items ∙ ap (map held_deque) (sym others);
  }

  with_worker : (b : Account) → b.hand ≡ y.hand → b.kept ≡ y.kept → y.deque ≡ x.deque → AreAccounts s' (accounts (slice_set c.workers w b) c.deques)
  with_worker b hand kept same = record {
    hands = set_both hand_of held_hand c.workers s.workers w b y m.hands hand ∙ ap (map held_hand) (sym others);
    kept = set_both kept_of held_kept c.workers s.workers w b y m.kept kept ∙ ap (map held_kept) (sym others);
    deques = set_one items_of held_deque c.deques s.workers w x y m.deques at same ∙ ap (map held_deque) (sym others);
  }

  with_deque : (r : Deque) → y.hand ≡ x.hand → y.kept ≡ x.kept → r.items ≡ y.deque → AreAccounts s' (accounts c.workers (slice_set c.deques w r))
  with_deque r hand kept items = record {
    hands = set_one hand_of held_hand c.workers s.workers w x y m.hands at hand ∙ ap (map held_hand) (sym others);
    kept = set_one kept_of held_kept c.workers s.workers w x y m.kept at kept ∙ ap (map held_kept) (sym others);
    deques = set_both items_of held_deque c.deques s.workers w r y m.deques items ∙ ap (map held_deque) (sym others);
  }

at_account : (R : Account → Account → Type 0) (c : Accounts) (w : ℕ) (x : Holding) (o : OfWorker c w x) (b : Account) → R o.account b → At w R c.workers (slice_set c.workers w b)
at_account R c w x o b p = record { old = o.account; new = b; here = o.here; goes = p; others = refl }

pub step_changes : (t : Rules) (s : State) (x : Step) (s' : State) (c : Accounts) → Steps t s x s' → AreAccounts s c → Changed t x s' c
step_changes t s (Push w) s' c p m =
    let step = p.0 in
    let d = step.goes in
    let o = of_worker s c w step.old m step.here in
    let a : Account = o.account in
    let right : Node = (t.parts d.node).1 in
    let b : Account = record a { hand = Some (t.parts d.node).0; put = a.put ++ right ∷ [] } in
    let found = beside items_of held_deque c.deques s.workers w step.old m.deques step.here in
    let q : Deque = found.0 in
    let r : Deque = record q { items = q.items ++ right ∷ []; put = q.put ++ right ∷ [] } in
    let puts : PutsRight t right a b = record { node = d.node; in_hand = o.hand ∙ d.in_hand; split = d.split; part = refl; after = refl } in
    let gains : GainsBack right q r = record { after = refl } in (
      accounts (slice_set c.workers w b) (slice_set c.deques w r),
      (right, at_account (PutsRight t right) c w step.old o b puts, record { old = q; new = r; here = found.1; goes = gains; others = refl }),
      with_both s s' c m w step.old step.new step.here step.others b r (ap held_hand (sym d.after)) (o.kept ∙ ap held_kept (sym d.after)) (ap (λ (l : List Node). l ++ right ∷ []) found.2 ∙ ap held_deque (sym d.after)),
    )
step_changes t s (Keep w) s' c p m =
    let step = p.0 in
    let d = step.goes in
    let o = of_worker s c w step.old m step.here in
    let a : Account = o.account in
    let right : Node = (t.parts d.node).1 in
    let b : Account = record a { hand = Some (t.parts d.node).0; kept = a.kept ++ right ∷ [] } in
    let keeps : KeepsRight t a b = record { node = d.node; in_hand = o.hand ∙ d.in_hand; split = d.split; after = refl } in (
      accounts (slice_set c.workers w b) c.deques,
      (at_account (KeepsRight t) c w step.old o b keeps, refl),
      with_worker s s' c m w step.old step.new step.here step.others b (ap held_hand (sym d.after)) (ap (λ (l : List Node). l ++ right ∷ []) o.kept ∙ ap held_kept (sym d.after)) (ap held_deque d.after),
    )
step_changes t s (Pop w) s' c p m =
    let step = p.0 in
    let d = step.goes in
    let n : Node = d.node in
    let o = of_worker s c w step.old m step.here in
    let a : Account = o.account in
    let b : Account = record a { hand = Some n; taken = a.taken ++ n ∷ [] } in
    let found = beside items_of held_deque c.deques s.workers w step.old m.deques step.here in
    let q : Deque = found.0 in
    let r : Deque = record q { items = d.rest; taken = q.taken ++ n ∷ [] } in
    let takes : TakesNode n a b = record { empty = o.hand ∙ d.empty; after = refl } in
    let loses : LosesFront n q r = record { rest = d.rest; front = found.2 ∙ d.front; after = refl } in (
      accounts (slice_set c.workers w b) (slice_set c.deques w r),
      (n, at_account (TakesNode n) c w step.old o b takes, record { old = q; new = r; here = found.1; goes = loses; others = refl }),
      with_both s s' c m w step.old step.new step.here step.others b r (ap held_hand (sym d.after)) (o.kept ∙ ap held_kept (sym d.after)) (ap held_deque (sym d.after)),
    )
step_changes t s (TakeKept w) s' c p m =
    let step = p.0 in
    let d = step.goes in
    let o = of_worker s c w step.old m step.here in
    let a : Account = o.account in
    let b : Account = record a { hand = Some d.node; kept = d.rest } in
    let takes : TakesTop a b = record { node = d.node; rest = d.rest; empty = o.hand ∙ d.empty; top = o.kept ∙ d.top; after = refl } in (
      accounts (slice_set c.workers w b) c.deques,
      (at_account TakesTop c w step.old o b takes, refl),
      with_worker s s' c m w step.old step.new step.here step.others b (ap held_hand (sym d.after)) (ap held_kept (sym d.after)) (ap held_deque d.after),
    )
step_changes t s (Steal w from) s' c p m =
    let steal = p.0 in
    let n : Node = steal.node in
    let give = steal.gives in
    let get = steal.gets in
    let mid : State = record { workers = steal.between; entered = s.entered } in
    let found = beside items_of held_deque c.deques s.workers from give.old m.deques give.here in
    let q : Deque = found.0 in
    let r : Deque = record q { items = give.goes.rest; taken = q.taken ++ n ∷ [] } in
    let loses : LosesFront n q r = record { rest = give.goes.rest; front = found.2 ∙ give.goes.front; after = refl } in
    let between : AreAccounts mid (accounts c.workers (slice_set c.deques from r)) =
    with_deque s mid c m from give.old give.new give.here give.others r (ap held_hand give.goes.after) (ap held_kept give.goes.after) (ap held_deque (sym give.goes.after)) in
    let c' : Accounts = accounts c.workers (slice_set c.deques from r) in
    let o = of_worker mid c' w get.old between get.here in
    let a : Account = o.account in
    let b : Account = record a { hand = Some n; taken = a.taken ++ n ∷ [] } in
    let takes : TakesNode n a b = record { empty = o.hand ∙ get.goes.empty; after = refl } in (
      accounts (slice_set c.workers w b) (slice_set c.deques from r),
      (n, at_account (TakesNode n) c' w get.old o b takes, record { old = q; new = r; here = found.1; goes = loses; others = refl }),
      with_worker mid s' c' between w get.old get.new get.here get.others b (ap held_hand (sym get.goes.after)) (o.kept ∙ ap held_kept (sym get.goes.after)) (ap held_deque get.goes.after),
    )
step_changes t s (Enter w) s' c p m =
    let step = p.1 in
    let d = step.goes in
    let o = of_worker s c w step.old m step.here in
    let a : Account = o.account in
    let b : Account = record a { hand = None; entered = a.entered ++ leaf_of d.node d.mark ∷ [] } in
    let enters : EntersNode t a b = record { node = d.node; mark = d.mark; in_hand = o.hand ∙ d.in_hand; marked = d.marked; after = refl } in (
      accounts (slice_set c.workers w b) c.deques,
      (at_account (EntersNode t) c w step.old o b enters, refl),
      with_worker s s' c m w step.old step.new step.here step.others b (ap held_hand (sym d.after)) (o.kept ∙ ap held_kept (sym d.after)) (ap held_deque d.after),
    )
