-- Events that keep each worker's history and each deque's rule are steps of the model.
use Rattle.std.proofs.Common.{◌≡◌, ◌≢◌, ◌<◌, ℕ, zero, suc, ◌==◌, Bool, true, false, ◌⊎◌, inl, inr, List, [], ◌∷◌, ◌++◌, length, map, flat_map, Some, None, if◌then◌else◌, slice_get, slice_set, append_assoc, refl, sym, ap, ◌∙◌, subst, arith}
use Rattle.std.proofs.lemmas.List.{append-nil, append_cancel_left, flat_map_more}
use Rattle.std.proofs.lemmas.Bool.Decides.{nat_tests}
use Rattle.std.specs.List.{AllByRecursion}
use Rattle.spec_trees.specs.declared.tree.Node.{Node}
use Rattle.spec_trees.specs.declared.tree.Leaf.{Leaf}
use Rattle.spec_trees.specs.Tree.{Rules, leaf_of}
use Rattle.spec_pool.specs.Accounts.{Account, EntersNode, KeepsRight, PutsRight, TakesNode, TakesTop}
use Rattle.pool_core.specs.declared.step.Step.TheVariants as S
use Rattle.pool_core.specs.States.{Holding, holding, State, state, At, Gets, GivesUp, Pushes, Keeps, Pops, TakesKept, Enters, Steals, Steps, Runs}
use Rattle.spec_pool.specs.Acts.{Act, Put, Keep, Take, TakeTop, Enter, Does, History, puts, takes_from, enters}
use Rattle.pool_core.specs.Interleaved.{Event, event, act_of, acts_of, put_by, put_on, taken_from, entered_in, KeepsRule, TakesBelow, IsNamed, step_by, step_of}

-- ---- numbers and lists
pub same_test : (j k : ℕ) → j ≡ k → (j == k) ≡ true
same_test j k e = grind (arith, nat_tests)

pub other_test : (j k : ℕ) → j ≢ k → (j == k) ≡ false
other_test j k e = grind (arith, nat_tests)

pub same_or_other : (j k : ℕ) → (j ≡ k) ⊎ (j ≢ k)
same_or_other j k = by (j == k) refl where
  by : (b : Bool) → (j == k) ≡ b → (j ≡ k) ⊎ (j ≢ k)
  by true e = inl (grind (arith, nat_tests))
  by false e = inr (λ same. grind (arith, nat_tests))

module _ {A : Type 0} where
  pub get_one : (xs : List A) (w : ℕ) → w < length xs → (x : A) × (slice_get xs w ≡ Some x)
  get_one [] w p = absurd (omega arith)
  get_one (x ∷ xs) zero p = (x, refl)
  get_one (x ∷ xs) (suc w) p = get_one xs w (omega arith)

  -- what stands at w once the element at v is another
  pub after_set : (xs : List A) (v w : ℕ) (y x : A) → slice_get (slice_set xs v y) w ≡ Some x → ((w ≡ v) × (x ≡ y)) ⊎ ((w ≢ v) × (slice_get xs w ≡ Some x))
  after_set [] v w y x at = absurd cc
  after_set (z ∷ xs) zero zero y x at = inl (refl, cc)
  after_set (z ∷ xs) zero (suc w) y x at = inr (λ e. omega arith, at)
  after_set (z ∷ xs) (suc v) zero y x at = inr (λ e. omega arith, at)
  after_set (z ∷ xs) (suc v) (suc w) y x at = elim (after_set xs v w y x at) [
    | inl s ↦ inl (ap suc s.0, s.1)
    | inr o ↦ inr (λ e. o.0 (omega arith), o.1)
  ]

  pub get_other : (xs : List A) (v w : ℕ) (y : A) → v ≢ w → slice_get (slice_set xs v y) w ≡ slice_get xs w
  get_other [] v w y e = refl
  get_other (z ∷ xs) zero zero y e = absurd (e refl)
  get_other (z ∷ xs) zero (suc w) y e = refl
  get_other (z ∷ xs) (suc v) zero y e = refl
  get_other (z ∷ xs) (suc v) (suc w) y e = get_other xs v w y (λ same. e (ap suc same))

  pub set_length : (xs : List A) (v : ℕ) (y : A) → length (slice_set xs v y) ≡ length xs
  set_length [] v y = refl
  set_length (z ∷ xs) zero y = refl
  set_length (z ∷ xs) (suc v) y = ap suc (set_length xs v y)

  pub one_more : {B : Type 0} (f : B → List A) (xs : List B) (x : B) → flat_map f (xs ++ x ∷ []) ≡ flat_map f xs ++ f x
  one_more f xs x = sym (flat_map_more f [] xs x)

-- ---- what an event adds
module _ (v k : ℕ) (act : Act) where
  pub act_here : v ≡ k → act_of k (event v act) ≡ act ∷ []
  act_here e = ap (λ (b : Bool). if b then act ∷ [] else []) (same_test v k e)

  pub act_other : v ≢ k → act_of k (event v act) ≡ []
  act_other e = ap (λ (b : Bool). if b then act ∷ [] else []) (other_test v k e)

  pub put_here : v ≡ k → put_by k (event v act) ≡ puts act
  put_here e = ap (λ (b : Bool). if b then puts act else []) (same_test v k e)

  pub put_other : v ≢ k → put_by k (event v act) ≡ []
  put_other e = ap (λ (b : Bool). if b then puts act else []) (other_test v k e)

  -- what the deque of k holds then: what it held, and what the event puts there, is what the event takes and what is left
  pub moves : (done : List Event) (xs ys : List Node) → xs ++ put_by k (event v act) ≡ takes_from k act ++ ys → put_on k done ≡ taken_from k done ++ xs
      → put_on k (done ++ event v act ∷ []) ≡ taken_from k (done ++ event v act ∷ []) ++ ys
  moves done xs ys e held =
      one_more (put_by k) done (event v act)
      ∙ (ap (λ (l : List Node). l ++ put_by k (event v act)) held
      ∙ (append_assoc (taken_from k done) xs (put_by k (event v act))
      ∙ (ap (λ (l : List Node). taken_from k done ++ l) e
      ∙ (sym (append_assoc (taken_from k done) (takes_from k act) ys)
      ∙ ap (λ (l : List Node). l ++ ys) (sym (one_more (λ (e : Event). takes_from k e.act) done (event v act)))))))

  -- what the rule says of the deque of k at an event that puts nothing there
  front : (done : List Event) (xs left : List Node) → put_by k (event v act) ≡ [] → put_on k done ≡ taken_from k done ++ xs
      → put_on k (done ++ event v act ∷ []) ≡ taken_from k (done ++ event v act ∷ []) ++ left → xs ≡ takes_from k act ++ left
  front done xs left e held now =
      append_cancel_left (taken_from k done) xs (takes_from k act ++ left)
      (sym held
      ∙ (sym (one_more (put_by k) done (event v act) ∙ (ap (λ (l : List Node). put_on k done ++ l) e ∙ append-nil (put_on k done)))
      ∙ (now
      ∙ (ap (λ (l : List Node). l ++ left) (one_more (λ (e : Event). takes_from k e.act) done (event v act))
      ∙ append_assoc (taken_from k done) (takes_from k act) left))))

pub taken_here : (k from : ℕ) (n : Node) → from ≡ k → takes_from k (Take from n) ≡ n ∷ []
taken_here k from n e = ap (λ (b : Bool). if b then n ∷ [] else []) (same_test from k e)

pub taken_other : (k from : ℕ) (n : Node) → from ≢ k → takes_from k (Take from n) ≡ []
taken_other k from n e = ap (λ (b : Bool). if b then n ∷ [] else []) (other_test from k e)

-- ---- a state in the midst of a list of events
module _ (t : Rules) (accounts : List Account) where
  -- what worker w holds shows the events that are done, and those that are still to come lead to its account
  pub record Stands (w : ℕ) (done todo : List Event) (x : Holding) : Type 0 where
    pub account : Account
    pub hand : x.hand ≡ account.hand
    pub kept : x.kept ≡ account.kept
    pub deque : put_on w done ≡ taken_from w done ++ x.deque
    pub end : Account
    pub ends : slice_get accounts w ≡ Some end
    pub history : History t account (acts_of w todo) end

  pub record Stage (done todo : List Event) (s : State) : Type 0 where
    pub count : length s.workers ≡ length accounts
    pub workers : (w : ℕ) (x : Holding) → slice_get s.workers w ≡ Some x → Stands w done todo x
    pub entered : s.entered ≡ entered_in done

  module _ (v : ℕ) (act : Act) (done todo : List Event) where
    abbrev now : List Event
    now = done ++ event v act ∷ []

    -- another worker, from whose deque the event takes nothing, or which it leaves so
    stays : (w : ℕ) (x y : Holding) → v ≢ w → y.hand ≡ x.hand → y.kept ≡ x.kept → x.deque ≡ takes_from w act ++ y.deque → Stands w done (event v act ∷ todo) x → Stands w now todo y
    stays w x y other hand kept deque s = record {
      account = s.account;
      hand = hand ∙ s.hand;
      kept = kept ∙ s.kept;
      deque = moves v w act done x.deque y.deque (ap (λ (l : List Node). x.deque ++ l) (put_other v w act other) ∙ (append-nil x.deque ∙ deque)) s.deque;
      end = s.end;
      ends = s.ends;
      history = subst (λ (l : List Act). History t s.account (l ++ acts_of w todo) s.end) (act_other v w act other) s.history;
    }

    -- the worker itself: what the event does to its account
    does : (x : Holding) (s : Stands v done (event v act ∷ todo) x) → (mid : Account) × Does t act s.account mid × History t mid (acts_of v todo) s.end
    does x s = subst (λ (l : List Act). History t s.account (l ++ acts_of v todo) s.end) (act_here v v act refl) s.history

    goes_on : (x y : Holding) (s : Stands v done (event v act ∷ todo) x) → y.hand ≡ (does x s).0.hand → y.kept ≡ (does x s).0.kept → x.deque ++ puts act ≡ takes_from v act ++ y.deque → Stands v now todo y
    goes_on x y s hand kept deque = record {
      account = (does x s).0;
      hand = hand;
      kept = kept;
      deque = moves v v act done x.deque y.deque (ap (λ (l : List Node). x.deque ++ l) (put_here v v act refl) ∙ deque) s.deque;
      end = s.end;
      ends = s.ends;
      history = (does x s).2;
    }

    -- only v changes, and nothing is taken from other deques
    one_changes : (s : State) (y : Holding) (es : List Leaf) → Stage done (event v act ∷ todo) s → Stands v now todo y → ((w : ℕ) → v ≢ w → takes_from w act ≡ []) → es ≡ entered_in now → Stage now todo (state (slice_set s.workers v y) es)
    one_changes s y es stage stands none e = record {
      count = set_length s.workers v y ∙ stage.count;
      workers = λ w z at. by w z (after_set s.workers v w y z at);
      entered = e;
    } where
      by : (w : ℕ) (z : Holding) → ((w ≡ v) × (z ≡ y)) ⊎ ((w ≢ v) × (slice_get s.workers w ≡ Some z)) → Stands w now todo z
      by w z (inl same) = subst (λ (k : ℕ). Stands k now todo z) (sym same.0) (subst (λ (u : Holding). Stands v now todo u) (sym same.1) stands)
      by w z (inr other) = let apart : v ≢ w = λ e. other.0 (sym e) in
          stays w z z apart refl refl (ap (λ (l : List Node). l ++ z.deque) (sym (none w apart))) (stage.workers w z other.1)

    no_leaf : (s : State) → Stage done (event v act ∷ todo) s → enters act ≡ [] → s.entered ≡ entered_in now
    no_leaf s stage e = stage.entered ∙ (sym (append-nil (entered_in done)) ∙ (ap (λ (l : List Leaf). entered_in done ++ l) (sym e) ∙ sym (one_more (λ (e : Event). enters e.act) done (event v act))))

    one_leaf : (s : State) (leaf : Leaf) → Stage done (event v act ∷ todo) s → enters act ≡ leaf ∷ [] → s.entered ++ leaf ∷ [] ≡ entered_in now
    one_leaf s leaf stage e = ap (λ (l : List Leaf). l ++ leaf ∷ []) stage.entered ∙ (ap (λ (l : List Leaf). entered_in done ++ l) (sym e) ∙ sym (one_more (λ (e : Event). enters e.act) done (event v act)))

    abbrev Stepped : State → Type 0
    Stepped s = (s' : State) × Steps t s (step_by v act) s' × Stage now todo s'

    -- what the rule of each deque says at this event
    abbrev RulesNow : Type 0
    RulesNow = (k : ℕ) → k < length accounts → (left : List Node) × (put_on k now ≡ taken_from k now ++ left)

  at : (R : Holding → Holding → Type 0) (xs : List Holding) (v : ℕ) (x y : Holding) → slice_get xs v ≡ Some x → R x y → At v R xs (slice_set xs v y)
  at R xs v x y here p = record { old = x; new = y; here = here; goes = p; others = refl }

  -- ---- each event is a step of the model
  module _ (v : ℕ) (done todo : List Event) (s : State) (x : Holding) (here : slice_get s.workers v ≡ Some x) where
    puts_right : (right : Node) → Stage done (event v (Put right) ∷ todo) s → Stepped v (Put right) done todo s
    puts_right right stage =
        let stands = stage.workers v x here in
        let d : PutsRight t right stands.account (does v (Put right) done todo x stands).0 = (does v (Put right) done todo x stands).1 in
        let y : Holding = holding (Some (t.parts d.node).0) (x.deque ++ (t.parts d.node).1 ∷ []) x.kept in
        let pushes : Pushes t x y = record { node = d.node; in_hand = stands.hand ∙ d.in_hand; split = d.split; after = refl } in (
          state (slice_set s.workers v y) s.entered,
          (at (Pushes t) s.workers v x y here pushes, refl),
          one_changes v (Put right) done todo s y s.entered stage
              (goes_on v (Put right) done todo x y stands (sym (ap (λ (a : Account). a.hand) d.after)) (stands.kept ∙ sym (ap (λ (a : Account). a.kept) d.after)) (ap (λ (n : Node). x.deque ++ n ∷ []) d.part))
              (λ w apart. refl) (no_leaf v (Put right) done todo s stage refl),
        )

    keeps_right : Stage done (event v Keep ∷ todo) s → Stepped v Keep done todo s
    keeps_right stage =
        let stands = stage.workers v x here in
        let d : KeepsRight t stands.account (does v Keep done todo x stands).0 = (does v Keep done todo x stands).1 in
        let y : Holding = holding (Some (t.parts d.node).0) x.deque (x.kept ++ (t.parts d.node).1 ∷ []) in
        let keeps : Keeps t x y = record { node = d.node; in_hand = stands.hand ∙ d.in_hand; split = d.split; after = refl } in (
          state (slice_set s.workers v y) s.entered,
          (at (Keeps t) s.workers v x y here keeps, refl),
          one_changes v Keep done todo s y s.entered stage
              (goes_on v Keep done todo x y stands (sym (ap (λ (a : Account). a.hand) d.after)) (ap (λ (l : List Node). l ++ (t.parts d.node).1 ∷ []) stands.kept ∙ sym (ap (λ (a : Account). a.kept) d.after)) (append-nil x.deque))
              (λ w apart. refl) (no_leaf v Keep done todo s stage refl),
        )

    takes_top : Stage done (event v TakeTop ∷ todo) s → Stepped v TakeTop done todo s
    takes_top stage =
        let stands = stage.workers v x here in
        let d : TakesTop stands.account (does v TakeTop done todo x stands).0 = (does v TakeTop done todo x stands).1 in
        let y : Holding = holding (Some d.node) x.deque d.rest in
        let takes : TakesKept x y = record { node = d.node; rest = d.rest; empty = stands.hand ∙ d.empty; top = stands.kept ∙ d.top; after = refl } in (
          state (slice_set s.workers v y) s.entered,
          (at TakesKept s.workers v x y here takes, refl),
          one_changes v TakeTop done todo s y s.entered stage
              (goes_on v TakeTop done todo x y stands (sym (ap (λ (a : Account). a.hand) d.after)) (sym (ap (λ (a : Account). a.kept) d.after)) (append-nil x.deque))
              (λ w apart. refl) (no_leaf v TakeTop done todo s stage refl),
        )

    same_leaf : (a b : Account) (leaf other : Leaf) → b.entered ≡ a.entered ++ leaf ∷ [] → b.entered ≡ a.entered ++ other ∷ [] → leaf ≡ other
    same_leaf a b leaf other e f = let ends : leaf ∷ [] ≡ other ∷ [] = append_cancel_left a.entered (leaf ∷ []) (other ∷ []) (sym e ∙ f) in cc

    enters_leaf : (leaf : Leaf) → Stage done (event v (Enter leaf) ∷ todo) s → Stepped v (Enter leaf) done todo s
    enters_leaf leaf stage =
        let stands = stage.workers v x here in
        let mid : Account = (does v (Enter leaf) done todo x stands).0 in
        let both : EntersNode t stands.account mid × (mid.entered ≡ stands.account.entered ++ leaf ∷ []) = (does v (Enter leaf) done todo x stands).1 in
        let d = both.0 in
        let y : Holding = holding None x.deque x.kept in
        let is : leaf ≡ leaf_of d.node d.mark = same_leaf stands.account mid leaf (leaf_of d.node d.mark) both.1 (ap (λ (a : Account). a.entered) d.after) in
        let goes : Enters t leaf x y = record { node = d.node; mark = d.mark; in_hand = stands.hand ∙ d.in_hand; marked = d.marked; entered = is; after = refl } in (
          state (slice_set s.workers v y) (s.entered ++ leaf ∷ []),
          (leaf, at (Enters t leaf) s.workers v x y here goes, refl),
          one_changes v (Enter leaf) done todo s y (s.entered ++ leaf ∷ []) stage
              (goes_on v (Enter leaf) done todo x y stands (sym (ap (λ (a : Account). a.hand) d.after)) (stands.kept ∙ sym (ap (λ (a : Account). a.kept) d.after)) (append-nil x.deque))
              (λ w apart. refl) (one_leaf v (Enter leaf) done todo s leaf stage refl),
        )

    -- a node of its own deque
    pops : (from : ℕ) (n : Node) → from ≡ v → Stage done (event v (Take from n) ∷ todo) s → (left : List Node) → put_on v (now v (Take from n) done todo) ≡ taken_from v (now v (Take from n) done todo) ++ left → Stepped v (Take from n) done todo s
    pops from n own stage left rule =
        let act : Act = Take from n in
        let stands = stage.workers v x here in
        let d : TakesNode n stands.account (does v act done todo x stands).0 = (does v act done todo x stands).1 in
        let held : x.deque ≡ takes_from v act ++ left = front v v act done x.deque left (put_here v v act refl) stands.deque rule in
        let first : x.deque ≡ n ∷ left = held ∙ ap (λ (l : List Node). l ++ left) (taken_here v from n own) in
        let y : Holding = holding (Some n) left x.kept in
        let goes : Pops x y = record { node = n; rest = left; empty = stands.hand ∙ d.empty; front = first; after = refl } in
        let s' : State = state (slice_set s.workers v y) s.entered in (
          s',
          subst (λ (b : Bool). Steps t s (if b then S.Pop v else S.Steal v from) s') (sym (same_test from v own)) (at Pops s.workers v x y here goes, refl),
          one_changes v act done todo s y s.entered stage
              (goes_on v act done todo x y stands (sym (ap (λ (a : Account). a.hand) d.after)) (stands.kept ∙ sym (ap (λ (a : Account). a.kept) d.after)) (append-nil x.deque ∙ held))
              (λ w apart. taken_other w from n (λ e. apart (sym own ∙ e))) (no_leaf v act done todo s stage refl),
        )

    -- a node of another's
    steals : (from : ℕ) (n : Node) → from ≢ v → Stage done (event v (Take from n) ∷ todo) s → (u : Holding) → slice_get s.workers from ≡ Some u → (left : List Node) → put_on from (now v (Take from n) done todo) ≡ taken_from from (now v (Take from n) done todo) ++ left → Stepped v (Take from n) done todo s
    steals from n apart stage u there left rule =
        let act : Act = Take from n in
        let stands = stage.workers v x here in
        let d : TakesNode n stands.account (does v act done todo x stands).0 = (does v act done todo x stands).1 in
        let other = stage.workers from u there in
        let back : v ≢ from = λ e. apart (sym e) in
        let held : u.deque ≡ takes_from from act ++ left = front v from act done u.deque left (put_other v from act back) other.deque rule in
        let first : u.deque ≡ n ∷ left = held ∙ ap (λ (l : List Node). l ++ left) (taken_here from from n refl) in
        let z : Holding = holding u.hand left u.kept in
        let gives : GivesUp n u z = record { rest = left; front = first; after = refl } in
        let between : List Holding = slice_set s.workers from z in
        let still : slice_get between v ≡ Some x = get_other s.workers from v z apart ∙ here in
        let y : Holding = holding (Some n) x.deque x.kept in
        let gets : Gets n x y = record { empty = stands.hand ∙ d.empty; after = refl } in
        let s' : State = state (slice_set between v y) s.entered in
        let steal : Steals v from s.workers s'.workers = record {
          node = n;
          between = between;
          apart = apart;
          gives = at (GivesUp n) s.workers from u z there gives;
          gets = at (Gets n) between v x y still gets;
        } in
        let taker : Stands v (now v act done todo) todo y =
        goes_on v act done todo x y stands (sym (ap (λ (a : Account). a.hand) d.after)) (stands.kept ∙ sym (ap (λ (a : Account). a.kept) d.after))
        (append-nil x.deque ∙ ap (λ (l : List Node). l ++ x.deque) (sym (taken_other v from n apart))) in
        let giver : Stands from (now v act done todo) todo z = stays v act done todo from u z back refl refl held other in (
          s',
          subst (λ (b : Bool). Steps t s (if b then S.Pop v else S.Steal v from) s') (sym (other_test from v apart)) (steal, refl),
          record {
            count = set_length between v y ∙ (set_length s.workers from z ∙ stage.count);
            workers = λ w h at. by y z taker giver w h (after_set between v w y h at);
            entered = no_leaf v act done todo s stage refl;
          },
        )
      where
        rest : (z : Holding) → Stands from (now v (Take from n) done todo) todo z → (w : ℕ) (h : Holding) → w ≢ v → ((w ≡ from) × (h ≡ z)) ⊎ ((w ≢ from) × (slice_get s.workers w ≡ Some h)) → Stands w (now v (Take from n) done todo) todo h
        rest z giver w h not (inl same) = subst (λ (k : ℕ). Stands k (now v (Take from n) done todo) todo h) (sym same.0) (subst (λ (u : Holding). Stands from (now v (Take from n) done todo) todo u) (sym same.1) giver)
        rest z giver w h not (inr o) =
            stays v (Take from n) done todo w h h (λ e. not (sym e)) refl refl (ap (λ (l : List Node). l ++ h.deque) (sym (taken_other w from n (λ e. o.0 (sym e))))) (stage.workers w h o.1)

        by : (y z : Holding) → Stands v (now v (Take from n) done todo) todo y → Stands from (now v (Take from n) done todo) todo z → (w : ℕ) (h : Holding) → ((w ≡ v) × (h ≡ y)) ⊎ ((w ≢ v) × (slice_get (slice_set s.workers from z) w ≡ Some h)) → Stands w (now v (Take from n) done todo) todo h
        by y z taker giver w h (inl same) = subst (λ (k : ℕ). Stands k (now v (Take from n) done todo) todo h) (sym same.0) (subst (λ (u : Holding). Stands v (now v (Take from n) done todo) todo u) (sym same.1) taker)
        by y z taker giver w h (inr o) = rest z giver w h o.0 (after_set s.workers from w z h o.1)

    takes_node : (from : ℕ) (n : Node) → from < length accounts → Stage done (event v (Take from n) ∷ todo) s → RulesNow v (Take from n) done todo → Stepped v (Take from n) done todo s
    takes_node from n below stage rules = by (same_or_other from v) where
      by : (from ≡ v) ⊎ (from ≢ v) → Stepped v (Take from n) done todo s
      by (inl own) =
          let rule = rules v (subst (λ (k : ℕ). k < length accounts) own below) in
          pops from n own stage rule.0 rule.1
      by (inr apart) =
          let rule = rules from below in
          let u = get_one s.workers from (omega (arith, below, stage.count)) in
          steals from n apart stage u.0 u.1 rule.0 rule.1

  stepped_at : (v : ℕ) (act : Act) (done todo : List Event) (s : State) (x : Holding) → slice_get s.workers v ≡ Some x → TakesBelow (length accounts) act → Stage done (event v act ∷ todo) s → RulesNow v act done todo → Stepped v act done todo s
  stepped_at v (Put right) done todo s x here named stage rules = puts_right v done todo s x here right stage
  stepped_at v Keep done todo s x here named stage rules = keeps_right v done todo s x here stage
  stepped_at v (Take from n) done todo s x here named stage rules = takes_node v done todo s x here from n named stage rules
  stepped_at v TakeTop done todo s x here named stage rules = takes_top v done todo s x here stage
  stepped_at v (Enter leaf) done todo s x here named stage rules = enters_leaf v done todo s x here leaf stage

  stepped : (v : ℕ) (act : Act) (done todo : List Event) (s : State) → IsNamed (length accounts) (event v act) → Stage done (event v act ∷ todo) s → RulesNow v act done todo → Stepped v act done todo s
  stepped v act done todo s named stage rules =
      let x = get_one s.workers v (omega (arith, named.0, stage.count)) in
      stepped_at v act done todo s x.0 x.1 named.1 stage rules

  -- ---- and so all of them, one after the other
  pub runs : (all todo done : List Event) (s : State) → all ≡ done ++ todo → AllByRecursion (IsNamed (length accounts)) todo → ((k : ℕ) → k < length accounts → KeepsRule k all) → Stage done todo s → (s' : State) × Runs t s (map step_of todo) s' × Stage all [] s'
  runs all [] done s e named rules stage = (s, refl, subst (λ (l : List Event). Stage l [] s) (sym (e ∙ append-nil done)) stage)
  runs all (d ∷ todo) done s e named rules stage =
      let split : all ≡ (done ++ d ∷ []) ++ todo = e ∙ sym (append_assoc done (d ∷ []) todo) in
      let one = stepped d.worker d.act done todo s named.0 stage (λ k below. rules k below (done ++ d ∷ []) todo split) in
      let rest = runs all todo (done ++ d ∷ []) one.0 split named.1 rules one.2 in
      (rest.0, (one.0, one.1, rest.1), rest.2)
