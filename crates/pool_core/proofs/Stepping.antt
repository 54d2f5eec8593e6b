-- What a worker's own step does to the pool.
use Rattle.std.proofs.Common.{◌≡◌, ◌≢◌, ℕ, List, [], ◌∷◌, ◌++◌, refl, sym, ap, ◌∙◌, subst, Some, Result, Ok, Err, OnOk, OnErr, IfErr, slice_get, slice_set, arith}
use Rattle.spec_trees.specs.declared.tree.Node.{Node}
use Rattle.spec_trees.specs.declared.tree.Leaf.{Leaf}
use Rattle.spec_trees.specs.Tree.{Rules, IsSound}
use Rattle.pool_core.specs.declared.step.Step.{Step}
use Rattle.pool_core.specs.declared.step.Step.TheVariants.{Steal, Enter}
use Rattle.pool_core.specs.States.{Holding, State, state, At, Gets, GivesUp, Enters, Steals, Steps, Refuses}
use Rattle.pool_core.specs.Tiling.{Conserves}
use Rattle.pool_core.proofs.Accounting.{same_set}
use Rattle.spec_pool.proofs.Weights.{weigh-get}
use Rattle.spec_pool.proofs.Finding.{is_node}
use Rattle.spec_pool.proofs.Hands.{weigh_hand}
use Rattle.pool_core.proofs.Moving.{weigh_holding}
use Rattle.pool_core.proofs.Keeping.{valid_one, step_conserves}
use Rattle.pool_core.specs.Views.{Goes, HoldsValid, empty_handed, own_step}
use Rattle.pool_core.specs.declared.worker.OwnStep.{OwnStep}
use Rattle.pool_core.specs.declared.worker.OwnStep.TheVariants.{Push, Keep, Pop, TakeKept}
use Rattle.pool_core.specs.declared.worker.StepError.{StepError}
use Rattle.pool_core.specs.declared.worker.StepError.TheVariants.{Refused}

pub hand_valid : (t : Rules) (root : Node) (workers : List Holding) (entered : List Leaf) (w : ℕ) (x : Holding) → Conserves t root (state workers entered) → slice_get workers w ≡ Some x → HoldsValid t x
hand_valid t root workers entered w x c at n e =
    let hand = ap (weigh_hand (is_node n)) e in
    let whole = weigh-get (weigh_holding (is_node n)) workers w x at in
    valid_one t root (state workers entered) n (omega arith) c

-- one worker goes by R
module _ (R : Holding → Holding → Type 0) (workers : List Holding) (entered : List Leaf) (w : ℕ) (x : Holding) (at : slice_get workers w ≡ Some x) where
  abbrev pub GoesBy : State → Type 0
  GoesBy s' = At w R workers s'.workers × (s'.entered ≡ entered)

  pub goes : (y : Holding) → R x y → GoesBy (state (slice_set workers w y) entered)
  goes y p = (record { old = x; new = y; here = at; goes = p; others = refl }, refl)

  refuses : ((y : Holding) → ¬ R x y) → (s' : State) → ¬ GoesBy s'
  refuses none s' g =
      let same : g.0.old ≡ x = cc (g.0.here, at) in
      none g.0.new (subst (λ (z : Holding). R z g.0.new) same g.0.goes)

  pub keeps : (P : State → Type 0) → ((s' : State) → GoesBy s' → P s') → P (state workers entered) → (y : Holding) (r : Result (Unit {0}) StepError) → OnOk r (R x y) → OnErr r (y ≡ x) → P (state (slice_set workers w y) entered)
  keeps P step now y (Ok u) ok same = step (state (slice_set workers w y) entered) (goes y ok)
  keeps P step now y (Err e) ok same = subst (λ (l : List Holding). P (state l entered)) (sym (ap (slice_set workers w) same ∙ same_set workers w x at)) now

-- what holds of each error holds of a refusal
pub on_refused : (P : Type 0) (r : Result (Unit {0}) StepError) → OnErr r P → IfErr r (λ e. e ≡ Refused → P)
on_refused P (Ok u) p = tt
on_refused P (Err e) p = λ is. p

-- ---- a step that changes only what its worker holds
pub own_steps : (t : Rules) (s : State) (w : ℕ) (o : OwnStep) (s' : State) → At w (Goes t o) s.workers s'.workers × (s'.entered ≡ s.entered) → Steps t s (own_step w o) s'
own_steps t s w Push s' p = p
own_steps t s w Keep s' p = p
own_steps t s w Pop s' p = p
own_steps t s w TakeKept s' p = p

own_goes : (t : Rules) (s : State) (w : ℕ) (o : OwnStep) (s' : State) → Steps t s (own_step w o) s' → At w (Goes t o) s.workers s'.workers × (s'.entered ≡ s.entered)
own_goes t s w Push s' p = p
own_goes t s w Keep s' p = p
own_goes t s w Pop s' p = p
own_goes t s w TakeKept s' p = p

module _ (t : Rules) (ws : List Holding) (es : List Leaf) (w : ℕ) (x : Holding) (at : slice_get ws w ≡ Some x) (o : OwnStep) where
  pub own_ok : (y : Holding) (r : Result (Unit {0}) StepError) → OnOk r (Goes t o x y) → OnOk r (Steps t (state ws es) (own_step w o) (state (slice_set ws w y) es))
  own_ok y (Ok u) p = own_steps t (state ws es) w o (state (slice_set ws w y) es) (goes (Goes t o) ws es w x at y p)
  own_ok y (Err e) p = tt

  pub own_refuses : (r : Result (Unit {0}) StepError) → IfErr r (λ e. e ≡ Refused → (y : Holding) → ¬ Goes t o x y) → IfErr r (λ e. e ≡ Refused → Refuses t (state ws es) (own_step w o))
  own_refuses (Ok u) p = tt
  own_refuses (Err e) p = λ is s' steps. refuses (Goes t o) ws es w x at (p is) s' (own_goes t (state ws es) w o s' steps)

-- a step by another name
pub refused_as : (t : Rules) (s : State) (x y : Step) (r : Result (Unit {0}) StepError) → x ≡ y → IfErr r (λ e. e ≡ Refused → Refuses t s y) → IfErr r (λ e. e ≡ Refused → Refuses t s x)
refused_as t s x y r e h = subst (λ (z : Step). IfErr r (λ e. e ≡ Refused → Refuses t s z)) (sym e) h

-- ---- a node goes from one worker to another
module _ (ws : List Holding) (w from : ℕ) (x : Holding) (at : slice_get ws from ≡ Some x) where
  pub steals : (n : Node) (y u z : Holding) → from ≢ w → GivesUp n x y → slice_get (slice_set ws from y) w ≡ Some u → Gets n u z → Steals w from ws (slice_set (slice_set ws from y) w z)
  steals n y u z apart gives there gets = record {
    node = n;
    between = slice_set ws from y;
    apart = apart;
    gives = record { old = x; new = y; here = at; goes = gives; others = refl };
    gets = record { old = u; new = z; here = there; goes = gets; others = refl };
  }

  pub no_steal : ((n : Node) (y : Holding) → ¬ GivesUp n x y) → (ys : List Holding) → ¬ Steals w from ws ys
  no_steal none ys s =
      let same : s.gives.old ≡ x = cc (s.gives.here, at) in
      none s.node s.gives.new (subst (λ (z : Holding). GivesUp s.node z s.gives.new) same s.gives.goes)

-- and so in the pool
module _ (t : Rules) (ws : List Holding) (es : List Leaf) (w from : ℕ) (ys : List Holding) (r : Result (Unit {0}) StepError) where
  pub steal_refused : OnErr r ((zs : List Holding) → ¬ Steals w from ws zs) → IfErr r (λ e. e ≡ Refused → Refuses t (state ws es) (Steal w from))
  steal_refused = steal_refused_by r where
    steal_refused_by : (r : Result (Unit {0}) StepError) → OnErr r ((zs : List Holding) → ¬ Steals w from ws zs) → IfErr r (λ e. e ≡ Refused → Refuses t (state ws es) (Steal w from))
    steal_refused_by (Ok u) p = tt
    steal_refused_by (Err e) p = λ is s' steps. p s'.workers steps.0

  pub steal_keeps : (root : Node) → IsSound t → OnOk r (Steals w from ws ys) → OnErr r (ys ≡ ws) → Conserves t root (state ws es) → Conserves t root (state ys es)
  steal_keeps root sound = steal_keeps_by r where
    steal_keeps_by : (r : Result (Unit {0}) StepError) → OnOk r (Steals w from ws ys) → OnErr r (ys ≡ ws) → Conserves t root (state ws es) → Conserves t root (state ys es)
    steal_keeps_by (Ok u) p same c = step_conserves t sound root (state ws es) (Steal w from) (state ys es) (p, refl) c
    steal_keeps_by (Err e) p same c = subst (λ (l : List Holding). Conserves t root (state l es)) (sym same) c

-- ---- a leaf is entered
module _ (t : Rules) (ws : List Holding) (es : List Leaf) (w : ℕ) (x : Holding) (at : slice_get ws w ≡ Some x) where
  pub enters : (z y : Holding) (l : Leaf) (es' : List Leaf) → slice_get ws w ≡ Some z → Enters t l x (empty_handed x) → y ≡ empty_handed z → es' ≡ es ++ l ∷ [] → Steps t (state ws es) (Enter w) (state (slice_set ws w y) es')
  enters z y l es' there p is e =
      let same : z ≡ x = cc (there, at) in
      let goes : Enters t l x y = subst (Enters t l x) (sym (is ∙ ap empty_handed same)) p in
      (l, record { old = x; new = y; here = at; goes = goes; others = refl }, e)

  pub no_leaf : ((l : Leaf) (y : Holding) → ¬ Enters t l x y) → Refuses t (state ws es) (Enter w)
  no_leaf none s' p =
      let same : p.1.old ≡ x = cc (p.1.here, at) in
      none p.0 p.1.new (subst (λ (z : Holding). Enters t p.0 z p.1.new) same p.1.goes)
