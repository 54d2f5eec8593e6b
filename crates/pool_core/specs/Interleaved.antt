-- The steps of all workers in one order, given by each worker's account and by what each deque gives: nothing here speaks
-- of the model's states.
use Rattle.std.specs.Prelude.{◌≡◌, ◌≢◌, ◌⊎◌, ◌<◌, ◌≤◌, ℕ, zero, suc, ◌==◌, List, [], ◌∷◌, ◌++◌, length, flat_map, All, Option, Some, None, ⊤, if◌then◌else◌, slice_get}
use Rattle.spec_trees.specs.declared.tree.Node.{Node}
use Rattle.spec_trees.specs.declared.tree.Leaf.{Leaf}
use Rattle.spec_trees.specs.Tree.{Rules}
use Rattle.spec_pool.specs.Accounts.{Account}
use Rattle.spec_pool.specs.Acts.{Act, Put, Keep, Take, TakeTop, Enter, History, puts, takes_from, enters}
use Rattle.pool_core.specs.declared.step.Step.{Step}
use Rattle.pool_core.specs.declared.step.Step.TheVariants as S
use Rattle.pool_core.specs.States.{Holding, State}

-- which worker did what
pub record Event : Type 0 where
  pub worker : ℕ
  pub act : Act

abbrev pub event : ℕ → Act → Event
event worker act = record { worker = worker; act = act }

-- ---- a worker's account
-- the root is in the hand of worker 0, and all else is empty
abbrev pub first_hand : Node → ℕ → Option Node
first_hand root zero = Some root
first_hand root (suc w) = None

abbrev pub first_account : Node → ℕ → Account
first_account root w = record { hand = first_hand root w; kept = []; put = []; taken = []; entered = [] }

-- ---- what a list of events holds, in its order
-- the acts of worker w
abbrev pub act_of : ℕ → Event → List Act
act_of w e = if e.worker == w then e.act ∷ [] else []

abbrev pub acts_of : ℕ → List Event → List Act
acts_of w es = flat_map (act_of w) es

-- the nodes that worker k put on its deque
abbrev pub put_by : ℕ → Event → List Node
put_by k e = if e.worker == k then puts e.act else []

abbrev pub put_on : ℕ → List Event → List Node
put_on k es = flat_map (put_by k) es

-- the nodes that anybody took from the deque of worker k
abbrev pub taken_from : ℕ → List Event → List Node
taken_from k es = flat_map (λ e. takes_from k e.act) es

-- the leaves that anybody entered
abbrev pub entered_in : List Event → List Leaf
entered_in es = flat_map (λ e. enters e.act) es

-- ---- the premise
-- the deque of worker k is first in, first out: at each moment, what was taken from it so far is a beginning of what was
-- put on it so far
abbrev pub KeepsRule : ℕ → List Event → Type 0
KeepsRule k es = (before after : List Event) → es ≡ before ++ after → (left : List Node) × (put_on k before ≡ taken_from k before ++ left)

-- an act names a worker below n
abbrev pub TakesBelow : ℕ → Act → Type 0
TakesBelow n (Take from node) = from < n
TakesBelow n (Put right) = ⊤
TakesBelow n Keep = ⊤
TakesBelow n TakeTop = ⊤
TakesBelow n (Enter leaf) = ⊤

abbrev pub IsNamed : ℕ → Event → Type 0
IsNamed n e = (e.worker < n) × TakesBelow n e.act

-- The workers' acts in one order of all of them, which leads them to these accounts: the acts of each worker, in this
-- order, are a history of its account from the opening on, and each deque keeps its rule. Of acts of different workers on
-- different deques nothing is required: they may stand in any order.
pub record Interleaves (t : Rules) (root : Node) (events : List Event) (accounts : List Account) : Type 0 where
  pub some : 1 ≤ length accounts
  pub named : All (IsNamed (length accounts)) events
  pub histories : (w : ℕ) (a : Account) → slice_get accounts w ≡ Some a → History t (first_account root w) (acts_of w events) a
  pub rules : (k : ℕ) → k < length accounts → KeepsRule k events

-- ---- the conclusion
-- the step of the model that an event is
abbrev pub step_by : ℕ → Act → Step
step_by w (Put right) = S.Push w
step_by w Keep = S.Keep w
step_by w (Take from node) = if from == w then S.Pop w else S.Steal w from
step_by w TakeTop = S.TakeKept w
step_by w (Enter leaf) = S.Enter w

abbrev pub step_of : Event → Step
step_of e = step_by e.worker e.act

-- a worker's hand and local stack are those of its account, and its deque holds what was put on it less what was taken from
-- it
pub record ShowsWorker (w : ℕ) (events : List Event) (a : Account) (x : Holding) : Type 0 where
  pub hand : x.hand ≡ a.hand
  pub kept : x.kept ≡ a.kept
  pub deque : put_on w events ≡ taken_from w events ++ x.deque

-- each worker shows so, and the leaves are those of the list, in its order
pub record Shows (events : List Event) (accounts : List Account) (s : State) : Type 0 where
  pub count : length s.workers ≡ length accounts
  pub workers : (w : ℕ) (a : Account) (x : Holding) → slice_get accounts w ≡ Some a → slice_get s.workers w ≡ Some x → ShowsWorker w events a x
  pub entered : s.entered ≡ entered_in events

-- no worker has a node, and what was put on each deque is what was taken from it
pub record IsAtRest (events : List Event) (accounts : List Account) : Type 0 where
  pub hands : All (λ a. (a.hand ≡ None) × (a.kept ≡ [])) accounts
  pub deques : (k : ℕ) → k < length accounts → put_on k events ≡ taken_from k events

-- ---- what the order does not say
-- the event puts nothing on the deque of worker k and takes nothing from it
abbrev pub Spares : ℕ → Event → Type 0
Spares k e = (put_by k e ≡ []) × (takes_from k e.act ≡ [])

-- two events of different workers, on different deques
pub record AreApart (d e : Event) : Type 0 where
  pub workers : d.worker ≢ e.worker
  pub deques : (k : ℕ) → Spares k d ⊎ Spares k e
