-- Each run of the model is told by events: the premise on interleaved events asks for no more than runs keep.
use Rattle.std.proofs.Common.{◌≡◌, ◌≢◌, ◌<◌, ◌≤◌, ℕ, zero, suc, ◌-◌, ◌⊎◌, inl, inr, List, [], ◌∷◌, ◌++◌, length, map, All, Some, None, Bool, if◌then◌else◌, replicate, slice_get, slice_set, append_assoc, refl, sym, ap, ◌∙◌, subst, arith}
use Rattle.std.proofs.lemmas.List.{append-nil, length-replicate}
use Rattle.std.proofs.lemmas.Option.{slice_get_within}
use Rattle.std.proofs.lemmas.List.Elements.{All-nil, All-push}
use Rattle.spec_trees.specs.declared.tree.Node.{Node}
use Rattle.spec_trees.specs.declared.tree.Leaf.{Leaf}
use Rattle.spec_trees.specs.Tree.{Rules, leaf_of}
use Rattle.spec_pool.specs.Accounts.{Account, EntersNode, KeepsRight, PutsRight, TakesNode, TakesTop}
use Rattle.pool_core.specs.declared.step.Step.{Step}
use Rattle.pool_core.specs.declared.step.Step.TheVariants as S
use Rattle.pool_core.specs.States.{Holding, holding, nothing, State, Steals, Steps, Runs, opening}
use Rattle.spec_pool.specs.Acts.{Act, Put, Keep, Take, TakeTop, Enter, Does, History, puts, takes_from, enters}
use Rattle.pool_core.specs.Interleaved.{Event, event, first_account, act_of, acts_of, put_on, taken_from, entered_in, KeepsRule, TakesBelow, IsNamed, Interleaves, step_of, ShowsWorker, Shows}
use Rattle.pool_core.proofs.Beginning.{idle}
use Rattle.pool_core.proofs.Interleaving.{same_test, other_test, get_one, after_set, get_other, set_length, one_more, act_here, act_other, put_here, put_other, moves, taken_here, taken_other}

-- ---- one event more
history_more : (t : Rules) (xs : List Act) (act : Act) (a b c : Account) → History t a xs b → Does t act b c → History t a (xs ++ act ∷ []) c
history_more t [] act a b c h d = (c, subst (λ (z : Account). Does t act z c) h d, refl)
history_more t (x ∷ xs) act a b c h d = (h.0, h.1, history_more t xs act h.0 b c h.2 d)

-- the front part of a list with one event more is all of it, or a front part of the list before
front_part : (done : List Event) (e : Event) (before after : List Event) → done ++ e ∷ [] ≡ before ++ after → (before ≡ done ++ e ∷ []) ⊎ ((rest : List Event) × (done ≡ before ++ rest))
front_part done e [] after same = inr (done, refl)
front_part [] e (b ∷ []) after same = let first : e ≡ b = cc in inl (ap (λ (z : Event). z ∷ []) (sym first))
front_part [] e (b ∷ (c ∷ bs)) after same = absurd cc
front_part (d ∷ done) e (b ∷ bs) after same =
    let first : d ≡ b = cc in
    let rest : done ++ e ∷ [] ≡ bs ++ after = cc in
    elim (front_part done e bs after rest) [
      | inl all ↦ inl (λ i. sym first i ∷ all i)
      | inr part ↦ inr (part.0, λ i. first i ∷ part.1 i)
    ]

rule_more : (k : ℕ) (done : List Event) (e : Event) → KeepsRule k done → (left : List Node) → put_on k (done ++ e ∷ []) ≡ taken_from k (done ++ e ∷ []) ++ left → KeepsRule k (done ++ e ∷ [])
rule_more k done e rule left now before after same = by (front_part done e before after same) where
  by : (before ≡ done ++ e ∷ []) ⊎ ((rest : List Event) × (done ≡ before ++ rest)) → (left : List Node) × (put_on k before ≡ taken_from k before ++ left)
  by (inl all) = (left, subst (λ (l : List Event). put_on k l ≡ taken_from k l ++ left) (sym all) now)
  by (inr part) = rule before part.0 part.1

-- ---- a state that events lead to
module _ (t : Rules) (root : Node) (n : ℕ) where
  pub record Reached (done : List Event) (s : State) : Type 0 where
    pub accounts : List Account
    pub count : length accounts ≡ n
    pub interleaves : Interleaves t root done accounts
    pub shows : Shows done accounts s

  -- such a state after one event more, which is this step
  abbrev Told : List Event → Step → State → Type 0
  Told done x s' = (e : Event) × (step_of e ≡ x) × Reached (done ++ e ∷ []) s'

  module _ (done : List Event) (s s' : State) (r : Reached done s) (v : ℕ) (act : Act) (a b : Account) (there : slice_get r.accounts v ≡ Some a) (does : Does t act a b) where
    abbrev now : List Event
    now = done ++ event v act ∷ []

    abbrev later : List Account
    later = slice_set r.accounts v b

    histories : (w : ℕ) (c : Account) → ((w ≡ v) × (c ≡ b)) ⊎ ((w ≢ v) × (slice_get r.accounts w ≡ Some c)) → History t (first_account root w) (acts_of w now) c
    histories w c (inl same) =
        subst (λ (l : List Act). History t (first_account root w) l c) (sym (one_more (act_of w) done (event v act) ∙ ap (λ (l : List Act). acts_of w done ++ l) (act_here v w act (sym same.0))))
        (history_more t (acts_of w done) act (first_account root w) a c (r.interleaves.histories w a (subst (λ (k : ℕ). slice_get r.accounts k ≡ Some a) (sym same.0) there)) (subst (Does t act a) (sym same.1) does))
    histories w c (inr other) =
        subst (λ (l : List Act). History t (first_account root w) l c)
        (sym (one_more (act_of w) done (event v act) ∙ (ap (λ (l : List Act). acts_of w done ++ l) (act_other v w act (λ e. other.0 (sym e))) ∙ append-nil (acts_of w done))))
        (r.interleaves.histories w c other.1)

    reaches : TakesBelow (length r.accounts) act → Shows now later s' → Reached now s'
    reaches named shows =
        let size : length later ≡ length r.accounts = set_length r.accounts v b in record {
          accounts = later;
          count = size ∙ r.count;
          interleaves = record {
            some = omega (arith, size, r.interleaves.some);
            named = subst (λ (m : ℕ). All (IsNamed m) now) (sym size) (All-push (IsNamed (length r.accounts)) done (event v act) r.interleaves.named (slice_get_within r.accounts v a there, named));
            histories = λ w c at. histories w c (after_set r.accounts v w b c at);
            rules = λ k below.
                let x = get_one s'.workers k (omega (arith, below, shows.count)) in
                let c = get_one later k below in
                rule_more k done (event v act) (r.interleaves.rules k (omega (arith, below, size))) x.0.deque (shows.workers k c.0 x.0 c.1 x.1).deque;
          };
          shows = shows;
        }

    -- what a worker holds that does nothing, and from whose deque perhaps a node is taken
    other_shows : (w : ℕ) (c : Account) (x y : Holding) → v ≢ w → y.hand ≡ x.hand → y.kept ≡ x.kept → x.deque ≡ takes_from w act ++ y.deque → ShowsWorker w done c x → ShowsWorker w now c y
    other_shows w c x y apart hand kept deque shows = record {
      hand = hand ∙ shows.hand;
      kept = kept ∙ shows.kept;
      deque = moves v w act done x.deque y.deque (ap (λ (l : List Node). x.deque ++ l) (put_other v w act apart) ∙ (append-nil x.deque ∙ deque)) shows.deque;
    }

    own_shows : (x y : Holding) → y.hand ≡ b.hand → y.kept ≡ b.kept → x.deque ++ puts act ≡ takes_from v act ++ y.deque → ShowsWorker v done a x → ShowsWorker v now b y
    own_shows x y hand kept deque shows = record {
      hand = hand;
      kept = kept;
      deque = moves v v act done x.deque y.deque (ap (λ (l : List Node). x.deque ++ l) (put_here v v act refl) ∙ deque) shows.deque;
    }

    -- where only v changes
    one_shows : (x y : Holding) → slice_get s.workers v ≡ Some x → s'.workers ≡ slice_set s.workers v y → ShowsWorker v now b y → ((w : ℕ) → v ≢ w → takes_from w act ≡ []) → s'.entered ≡ entered_in now → Shows now later s'
    one_shows x y at others own none entered = record {
      count = ap length others ∙ (set_length s.workers v y ∙ (r.shows.count ∙ sym (set_length r.accounts v b)));
      workers = λ w c z here there. by w c z (after_set r.accounts v w b c here) (after_set s.workers v w y z (subst (λ (l : List Holding). slice_get l w ≡ Some z) others there));
      entered = entered;
    } where
      by : (w : ℕ) (c : Account) (z : Holding) → ((w ≡ v) × (c ≡ b)) ⊎ ((w ≢ v) × (slice_get r.accounts w ≡ Some c)) → ((w ≡ v) × (z ≡ y)) ⊎ ((w ≢ v) × (slice_get s.workers w ≡ Some z)) → ShowsWorker w now c z
      by w c z (inl p) (inl q) =
          subst (λ (k : ℕ). ShowsWorker k now c z) (sym p.0) (subst (λ (u : Account). ShowsWorker v now u z) (sym p.1) (subst (λ (u : Holding). ShowsWorker v now b u) (sym q.1) own))
      by w c z (inl p) (inr q) = absurd (q.0 p.0)
      by w c z (inr p) (inl q) = absurd (p.0 q.0)
      by w c z (inr p) (inr q) = let apart : v ≢ w = λ e. p.0 (sym e) in
          other_shows w c z z apart refl refl (ap (λ (l : List Node). l ++ z.deque) (sym (none w apart))) (r.shows.workers w c z p.1 q.1)

    no_leaf : s'.entered ≡ s.entered → enters act ≡ [] → s'.entered ≡ entered_in now
    no_leaf same e = same ∙ (r.shows.entered ∙ (sym (append-nil (entered_in done)) ∙ (ap (λ (l : List Leaf). entered_in done ++ l) (sym e) ∙ sym (one_more (λ (e : Event). enters e.act) done (event v act)))))

    one_leaf : (leaf : Leaf) → s'.entered ≡ s.entered ++ leaf ∷ [] → enters act ≡ leaf ∷ [] → s'.entered ≡ entered_in now
    one_leaf leaf more e = more ∙ (ap (λ (l : List Leaf). l ++ leaf ∷ []) r.shows.entered ∙ (ap (λ (l : List Leaf). entered_in done ++ l) (sym e) ∙ sym (one_more (λ (e : Event). enters e.act) done (event v act))))

  -- ---- each step
  -- the account of the worker that takes a step
  of_worker : (done : List Event) (s : State) (r : Reached done s) (w : ℕ) (x : Holding) → slice_get s.workers w ≡ Some x → (a : Account) × (slice_get r.accounts w ≡ Some a)
  of_worker done s r w x at = get_one r.accounts w (omega (arith, slice_get_within s.workers w x at, r.shows.count))

  steal_told : (done : List Event) (s s' : State) (w from : ℕ) → Reached done s → Steals w from s.workers s'.workers → s'.entered ≡ s.entered → Told done (S.Steal w from) s'
  steal_told done s s' w from r p entered =
      let gives = p.gives in
      let gets = p.gets in
      let node : Node = p.node in
      let act : Act = Take from node in
      let back : w ≢ from = λ e. p.apart (sym e) in
      let here : slice_get s.workers w ≡ Some gets.old = sym (get_other s.workers from w gives.new p.apart) ∙ (sym (ap (λ (l : List Holding). slice_get l w) gives.others) ∙ gets.here) in
      let one = of_worker done s r w gets.old here in
      let a : Account = one.0 in
      let shown = r.shows.workers w a gets.old one.1 here in
      let b : Account = record a { hand = Some node; taken = a.taken ++ node ∷ [] } in
      let does : TakesNode node a b = record { empty = sym shown.hand ∙ gets.goes.empty; after = refl } in
      let giver = of_worker done s r from gives.old gives.here in
      let below : from < length r.accounts = slice_get_within r.accounts from giver.0 giver.1 in
      let d = gives.goes in
      let taker_shows : ShowsWorker w (done ++ event w act ∷ []) b gets.new = own_shows done s s' r w act a b one.1 does gets.old gets.new (ap (λ (h : Holding). h.hand) gets.goes.after) (ap (λ (h : Holding). h.kept) gets.goes.after ∙ shown.kept)
      (append-nil gets.old.deque ∙ (sym (ap (λ (h : Holding). h.deque) gets.goes.after) ∙ ap (λ (l : List Node). l ++ gets.new.deque) (sym (taken_other w from node p.apart)))) shown in
      let giver_shows : ShowsWorker from (done ++ event w act ∷ []) giver.0 gives.new = other_shows done s s' r w act a b one.1 does from giver.0 gives.old gives.new back (ap (λ (h : Holding). h.hand) d.after) (ap (λ (h : Holding). h.kept) d.after)
      (d.front ∙ (ap (λ (l : List Node). l ++ d.rest) (sym (taken_here from from node refl)) ∙ ap (λ (l : List Node). takes_from from act ++ l) (sym (ap (λ (h : Holding). h.deque) d.after))))
      (r.shows.workers from giver.0 gives.old giver.1 gives.here) in (
        event w act,
        ap (λ (b : Bool). if b then S.Pop w else S.Steal w from) (other_test from w p.apart),
        reaches done s s' r w act a b one.1 does below (record {
          count = ap length gets.others ∙ (set_length p.between w gets.new ∙ (ap length gives.others ∙ (set_length s.workers from gives.new ∙ (r.shows.count ∙ sym (set_length r.accounts w b)))));
          workers = λ k c z ck zk.
              by a b one.1 does giver.0 giver.1 taker_shows giver_shows k c z (after_set r.accounts w k b c ck) (after_set p.between w k gets.new z (subst (λ (l : List Holding). slice_get l k ≡ Some z) gets.others zk));
          entered = no_leaf done s s' r w act a b one.1 does entered refl;
        }),
      )
    where
      other : (a b : Account) (there : slice_get r.accounts w ≡ Some a) (does : Does t (Take from p.node) a b) (g : Account) → slice_get r.accounts from ≡ Some g → ShowsWorker from (done ++ event w (Take from p.node) ∷ []) g p.gives.new → (k : ℕ) (c : Account) (z : Holding) → k ≢ w → slice_get r.accounts k ≡ Some c
          → ((k ≡ from) × (z ≡ p.gives.new)) ⊎ ((k ≢ from) × (slice_get s.workers k ≡ Some z)) → ShowsWorker k (done ++ event w (Take from p.node) ∷ []) c z
      other a b there does g at shows k c z apart ck (inl q) =
          let same : g ≡ c = cc (at, ap (slice_get r.accounts) (sym q.0), ck) in
          subst (λ (i : ℕ). ShowsWorker i (done ++ event w (Take from p.node) ∷ []) c z) (sym q.0)
          (subst (λ (u : Account). ShowsWorker from (done ++ event w (Take from p.node) ∷ []) u z) same (subst (λ (u : Holding). ShowsWorker from (done ++ event w (Take from p.node) ∷ []) g u) (sym q.1) shows))
      other a b there does g at shows k c z apart ck (inr q) =
          other_shows done s s' r w (Take from p.node) a b there does k c z z (λ e. apart (sym e)) refl refl (ap (λ (l : List Node). l ++ z.deque) (sym (taken_other k from p.node (λ e. q.0 (sym e))))) (r.shows.workers k c z ck q.1)

      by : (a b : Account) (there : slice_get r.accounts w ≡ Some a) (does : Does t (Take from p.node) a b) (g : Account) → slice_get r.accounts from ≡ Some g → ShowsWorker w (done ++ event w (Take from p.node) ∷ []) b p.gets.new → ShowsWorker from (done ++ event w (Take from p.node) ∷ []) g p.gives.new → (k : ℕ) (c : Account) (z : Holding)
          → ((k ≡ w) × (c ≡ b)) ⊎ ((k ≢ w) × (slice_get r.accounts k ≡ Some c)) → ((k ≡ w) × (z ≡ p.gets.new)) ⊎ ((k ≢ w) × (slice_get p.between k ≡ Some z)) → ShowsWorker k (done ++ event w (Take from p.node) ∷ []) c z
      by a b there does g at own shows k c z (inl q) (inl v) =
          subst (λ (i : ℕ). ShowsWorker i (done ++ event w (Take from p.node) ∷ []) c z) (sym q.0)
          (subst (λ (u : Account). ShowsWorker w (done ++ event w (Take from p.node) ∷ []) u z) (sym q.1) (subst (λ (u : Holding). ShowsWorker w (done ++ event w (Take from p.node) ∷ []) b u) (sym v.1) own))
      by a b there does g at own shows k c z (inl q) (inr v) = absurd (v.0 q.0)
      by a b there does g at own shows k c z (inr q) (inl v) = absurd (q.0 v.0)
      by a b there does g at own shows k c z (inr q) (inr v) =
          other a b there does g at shows k c z q.0 q.1 (after_set s.workers from k p.gives.new z (subst (λ (l : List Holding). slice_get l k ≡ Some z) p.gives.others v.1))

  told : (done : List Event) (s : State) (x : Step) (s' : State) → Reached done s → Steps t s x s' → Told done x s'
  told done s (S.Push w) s' r p =
      let step = p.0 in
      let d = step.goes in
      let one = of_worker done s r w step.old step.here in
      let a : Account = one.0 in
      let shown = r.shows.workers w a step.old one.1 step.here in
      let right : Node = (t.parts d.node).1 in
      let b : Account = record a { hand = Some (t.parts d.node).0; put = a.put ++ right ∷ [] } in
      let does : PutsRight t right a b = record { node = d.node; in_hand = sym shown.hand ∙ d.in_hand; split = d.split; part = refl; after = refl } in
      let own = own_shows done s s' r w (Put right) a b one.1 does step.old step.new (ap (λ (h : Holding). h.hand) d.after) (ap (λ (h : Holding). h.kept) d.after ∙ shown.kept) (sym (ap (λ (h : Holding). h.deque) d.after)) shown in
      let shows = one_shows done s s' r w (Put right) a b one.1 does step.old step.new step.here step.others own (λ k apart. refl) (no_leaf done s s' r w (Put right) a b one.1 does p.1 refl) in
      (event w (Put right), refl, reaches done s s' r w (Put right) a b one.1 does tt shows)
  told done s (S.Keep w) s' r p =
      let step = p.0 in
      let d = step.goes in
      let one = of_worker done s r w step.old step.here in
      let a : Account = one.0 in
      let shown = r.shows.workers w a step.old one.1 step.here in
      let right : Node = (t.parts d.node).1 in
      let b : Account = record a { hand = Some (t.parts d.node).0; kept = a.kept ++ right ∷ [] } in
      let does : KeepsRight t a b = record { node = d.node; in_hand = sym shown.hand ∙ d.in_hand; split = d.split; after = refl } in
      let own = own_shows done s s' r w Keep a b one.1 does step.old step.new (ap (λ (h : Holding). h.hand) d.after) (ap (λ (h : Holding). h.kept) d.after ∙ ap (λ (l : List Node). l ++ right ∷ []) shown.kept) (append-nil step.old.deque ∙ sym (ap (λ (h : Holding). h.deque) d.after)) shown in
      let shows = one_shows done s s' r w Keep a b one.1 does step.old step.new step.here step.others own (λ k apart. refl) (no_leaf done s s' r w Keep a b one.1 does p.1 refl) in
      (event w Keep, refl, reaches done s s' r w Keep a b one.1 does tt shows)
  told done s (S.Pop w) s' r p =
      let step = p.0 in
      let d = step.goes in
      let node : Node = d.node in
      let act : Act = Take w node in
      let one = of_worker done s r w step.old step.here in
      let a : Account = one.0 in
      let shown = r.shows.workers w a step.old one.1 step.here in
      let b : Account = record a { hand = Some node; taken = a.taken ++ node ∷ [] } in
      let does : TakesNode node a b = record { empty = sym shown.hand ∙ d.empty; after = refl } in
      let own = own_shows done s s' r w act a b one.1 does step.old step.new (ap (λ (h : Holding). h.hand) d.after) (ap (λ (h : Holding). h.kept) d.after ∙ shown.kept)
      (append-nil step.old.deque ∙ (d.front ∙ (ap (λ (l : List Node). l ++ d.rest) (sym (taken_here w w node refl)) ∙ ap (λ (l : List Node). takes_from w act ++ l) (sym (ap (λ (h : Holding). h.deque) d.after))))) shown in
      let shows = one_shows done s s' r w act a b one.1 does step.old step.new step.here step.others own (λ k apart. taken_other k w node apart) (no_leaf done s s' r w act a b one.1 does p.1 refl) in
      (event w act, ap (λ (b : Bool). if b then S.Pop w else S.Steal w w) (same_test w w refl), reaches done s s' r w act a b one.1 does (slice_get_within r.accounts w a one.1) shows)
  told done s (S.TakeKept w) s' r p =
      let step = p.0 in
      let d = step.goes in
      let one = of_worker done s r w step.old step.here in
      let a : Account = one.0 in
      let shown = r.shows.workers w a step.old one.1 step.here in
      let b : Account = record a { hand = Some d.node; kept = d.rest } in
      let does : TakesTop a b = record { node = d.node; rest = d.rest; empty = sym shown.hand ∙ d.empty; top = sym shown.kept ∙ d.top; after = refl } in
      let own = own_shows done s s' r w TakeTop a b one.1 does step.old step.new (ap (λ (h : Holding). h.hand) d.after) (ap (λ (h : Holding). h.kept) d.after) (append-nil step.old.deque ∙ sym (ap (λ (h : Holding). h.deque) d.after)) shown in
      let shows = one_shows done s s' r w TakeTop a b one.1 does step.old step.new step.here step.others own (λ k apart. refl) (no_leaf done s s' r w TakeTop a b one.1 does p.1 refl) in
      (event w TakeTop, refl, reaches done s s' r w TakeTop a b one.1 does tt shows)
  told done s (S.Steal w from) s' r p = steal_told done s s' w from r p.0 p.1
  told done s (S.Enter w) s' r p =
      let leaf : Leaf = p.0 in
      let step = p.1 in
      let d = step.goes in
      let act : Act = Enter leaf in
      let one = of_worker done s r w step.old step.here in
      let a : Account = one.0 in
      let shown = r.shows.workers w a step.old one.1 step.here in
      let b : Account = record a { hand = None; entered = a.entered ++ leaf_of d.node d.mark ∷ [] } in
      let enters : EntersNode t a b = record { node = d.node; mark = d.mark; in_hand = sym shown.hand ∙ d.in_hand; marked = d.marked; after = refl } in
      let does : Does t act a b = (enters, ap (λ (l : Leaf). a.entered ++ l ∷ []) (sym d.entered)) in
      let own = own_shows done s s' r w act a b one.1 does step.old step.new (ap (λ (h : Holding). h.hand) d.after) (ap (λ (h : Holding). h.kept) d.after ∙ shown.kept) (append-nil step.old.deque ∙ sym (ap (λ (h : Holding). h.deque) d.after)) shown in
      let shows = one_shows done s s' r w act a b one.1 does step.old step.new step.here step.others own (λ k apart. refl) (one_leaf done s s' r w act a b one.1 does leaf p.2 refl) in
      (event w act, refl, reaches done s s' r w act a b one.1 does tt shows)

  -- ---- and each run
  all_told : (xs : List Step) (done : List Event) (s s' : State) → Reached done s → Runs t s xs s' → (events : List Event) × (map step_of events ≡ xs) × Reached (done ++ events) s'
  all_told [] done s s' r p = ([], refl, subst (λ (l : List Event). Reached l s') (sym (append-nil done)) (subst (Reached done) (sym p) r))
  all_told (x ∷ xs) done s s' r p =
      let one = told done s x p.0 r p.1 in
      let rest = all_told xs (done ++ one.0 ∷ []) p.0 s' one.2 p.2 in
      (one.0 ∷ rest.0, λ i. one.1 i ∷ rest.1 i, subst (λ (l : List Event). Reached l s') (append_assoc done (one.0 ∷ []) rest.0) rest.2)

-- ---- from the opening on
abbrev pub firsts : Node → ℕ → List Account
firsts root n = first_account root 0 ∷ replicate (n - 1) (first_account root 1)

same_first : (root : Node) (m w : ℕ) (a : Account) → slice_get (replicate m (first_account root 1)) w ≡ Some a → a ≡ first_account root 1
same_first root zero w a at = absurd cc
same_first root (suc m) zero a at = cc
same_first root (suc m) (suc w) a at = same_first root m w a at

module _ (t : Rules) (root : Node) (n : ℕ) (some : 1 ≤ n) where
  first_histories : (w : ℕ) (a : Account) → slice_get (firsts root n) w ≡ Some a → History t (first_account root w) (acts_of w []) a
  first_histories zero a at = cc
  first_histories (suc w) a at = same_first root (n - 1) w a at

  first_rules : (k : ℕ) → KeepsRule k []
  first_rules k [] after e = ([], refl)
  first_rules k (b ∷ before) after e = absurd cc

  first_shows : (w : ℕ) (a : Account) (x : Holding) → slice_get (firsts root n) w ≡ Some a → slice_get (opening root n).workers w ≡ Some x → ShowsWorker w [] a x
  first_shows zero a x at here =
      let is : a ≡ first_account root 0 = cc in
      let so : x ≡ holding (Some root) [] [] = cc in
      record {
        hand = ap (λ (h : Holding). h.hand) so ∙ sym (ap (λ (b : Account). b.hand) is);
        kept = ap (λ (h : Holding). h.kept) so ∙ sym (ap (λ (b : Account). b.kept) is);
        deque = sym (ap (λ (h : Holding). h.deque) so);
      }
  first_shows (suc w) a x at here =
      let is : a ≡ first_account root 1 = same_first root (n - 1) w a at in
      let so : x ≡ nothing = idle (n - 1) w x here in
      record {
        hand = ap (λ (h : Holding). h.hand) so ∙ sym (ap (λ (b : Account). b.hand) is);
        kept = ap (λ (h : Holding). h.kept) so ∙ sym (ap (λ (b : Account). b.kept) is);
        deque = sym (ap (λ (h : Holding). h.deque) so);
      }

  first_reached : Reached t root n [] (opening root n)
  first_reached =
      let count : length (firsts root n) ≡ n = omega (arith, some, length-replicate (n - 1) (first_account root 1)) in record {
        accounts = firsts root n;
        count = count;
        interleaves = record {
          some = omega (arith, count, some);
          named = All-nil (IsNamed (length (firsts root n)));
          histories = first_histories;
          rules = λ k below. first_rules k;
        };
        shows = record {
          count = omega (arith, some, length-replicate (n - 1) (first_account root 1), length-replicate (n - 1) nothing);
          workers = first_shows;
          entered = refl;
        };
      }

  abbrev pub IsTold : List Step → State → Type 0
  IsTold xs s = (events : List Event) × (accounts : List Account) × (map step_of events ≡ xs) × (length accounts ≡ n) × Interleaves t root events accounts × Shows events accounts s

  pub is_told : (xs : List Step) (s : State) → Runs t (opening root n) xs s → IsTold xs s
  is_told xs s p =
      let r = all_told t root n xs [] (opening root n) s first_reached p in
      (r.0, r.2.accounts, r.1, r.2.count, r.2.interleaves, r.2.shows)
