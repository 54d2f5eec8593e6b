-- How contracts see a pool.
use Rattle.std.specs.Prelude.{◌≡◌, ◌≢◌, ℕ, Some, None, Result, IfErr}
use Rattle.spec_trees.specs.declared.tree.Leaf.{Leaf}
use Rattle.spec_trees.specs.declared.tree.Node.{Node}
use Rattle.spec_trees.specs.declared.tree.Verdict.TheVariants.{Split}
use Rattle.spec_trees.specs.Tree.{Rules, IsValid}
use Rattle.pool_core.specs.declared.step.Step.{Step}
use Rattle.pool_core.specs.declared.step.Step.TheVariants as S
use Rattle.pool_core.specs.States.{Holding, holding, Enters, Keeps, Pops, Pushes, State, Steps, Refuses, TakesKept}
use Rattle.pool_core.specs.declared.worker.OwnStep.{OwnStep}
use Rattle.pool_core.specs.declared.worker.OwnStep.TheVariants.{Push, Keep, Pop, TakeKept}
use Rattle.pool_core.specs.declared.worker.StepError.{StepError}
use Rattle.pool_core.specs.declared.worker.StepError.TheVariants.{Refused}

-- its judge, its root and its state
pub record Seen (J : Type 0) : Type 0 where
  pub judge : J
  pub root : Node
  pub state : State

abbrev pub seen : {J : Type 0} → J → Node → State → Seen J
seen judge root state = record { judge = judge; root = root; state = state }

-- the node in the hand, if any, is valid
abbrev pub HoldsValid : Rules → Holding → Type 0
HoldsValid t x = (n : Node) → x.hand ≡ Some n → IsValid t n

abbrev pub empty_handed : Holding → Holding
empty_handed x = holding None x.deque x.kept

-- the step takes the pool from one state to another
abbrev pub Takes : {J : Type 0} → Rules → Seen J → Step → Seen J → Type 0
Takes t old step new = Steps t old.state step new.state

-- where the answer is `Refused`, no state comes of the step
abbrev pub IsRefusal : {J : Type 0} → Rules → Seen J → Step → Result (Unit {0}) StepError → Type 0
IsRefusal t v step r = IfErr r (λ e. e ≡ Refused → Refuses t v.state step)

-- nothing comes of what a worker holds by R
abbrev pub IsStuck : (Holding → Holding → Type 0) → Holding → Type 0
IsStuck R x = (y : Holding) → ¬ R x y

-- what holds where the answer is `Refused`
abbrev pub IfRefused : Result (Unit {0}) StepError → Type 0 → Type 0
IfRefused r p = IfErr r (λ e. e ≡ Refused → p)

-- the leaf that the hand's node is, and that there is none
abbrev pub HoldsLeaf : Rules → Holding → Leaf → Type 0
HoldsLeaf t x leaf = Enters t leaf x (empty_handed x)

abbrev pub HoldsNoLeaf : Rules → Holding → Type 0
HoldsNoLeaf t x = (leaf : Leaf) (y : Holding) → ¬ Enters t leaf x y

-- the hand's node is to be split, and these are its parts; and it is not, or there is none
abbrev pub HoldsSplit : Rules → Holding → Node × Node → Type 0
HoldsSplit t x both = (n : Node) × (x.hand ≡ Some n) × (t.verdict n ≡ Split) × (both ≡ t.parts n)

abbrev pub HoldsNoSplit : Rules → Holding → Type 0
HoldsNoSplit t x = (n : Node) → x.hand ≡ Some n → t.verdict n ≢ Split

-- ---- the steps that change only what their worker holds
-- what such a step does to it
abbrev pub Goes : Rules → OwnStep → Holding → Holding → Type 0
Goes t Push = Pushes t
Goes t Keep = Keeps t
Goes t Pop = Pops
Goes t TakeKept = TakesKept

-- the step of worker w
abbrev pub own_step : ℕ → OwnStep → Step
own_step w Push = S.Push w
own_step w Keep = S.Keep w
own_step w Pop = S.Pop w
own_step w TakeKept = S.TakeKept w
