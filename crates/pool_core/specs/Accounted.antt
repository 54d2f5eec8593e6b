-- The accounts of all workers and of their deques, and how each step of the model changes them.
use Rattle.std.specs.Prelude.{◌≡◌, ℕ, List, [], ◌∷◌, ◌++◌, Some, map, slice_get, All}
use Rattle.spec_trees.specs.declared.tree.Node.{Node}
use Rattle.spec_trees.specs.Tree.{Rules}
use Rattle.spec_pool.specs.Accounts.{Account, Balances, EntersNode, KeepsRight, PutsRight, TakesNode, TakesTop}
use Rattle.pool_core.specs.declared.step.Step.{Step}
use Rattle.pool_core.specs.declared.step.Step.TheVariants.{Push, Keep, Pop, TakeKept, Steal, Enter}
use Rattle.pool_core.specs.States.{State, At}

-- the nodes on one deque, all that its owner put on it, and all that anybody took from it, in order
pub record Deque : Type 0 where
  pub items : List Node
  pub put : List Node
  pub taken : List Node

-- of each worker and of its deque
pub record Accounts : Type 0 where
  pub workers : List Account
  pub deques : List Deque

-- ---- what a step does to the account of a deque

pub record GainsBack (node : Node) (q r : Deque) : Type 0 where
  pub after : r ≡ record q { items = q.items ++ node ∷ []; put = q.put ++ node ∷ [] }

pub record LosesFront (node : Node) (q r : Deque) : Type 0 where
  pub rest : List Node
  pub front : q.items ≡ node ∷ rest
  pub after : r ≡ record q { items = rest; taken = q.taken ++ node ∷ [] }

-- ---- each step changes one worker's account, and that of one deque at most
abbrev pub Accounted : Rules → Step → Accounts → Accounts → Type 0
Accounted t (Push w) c d = (n : Node) × At w (PutsRight t n) c.workers d.workers × At w (GainsBack n) c.deques d.deques
Accounted t (Keep w) c d = At w (KeepsRight t) c.workers d.workers × (d.deques ≡ c.deques)
Accounted t (Pop w) c d = (n : Node) × At w (TakesNode n) c.workers d.workers × At w (LosesFront n) c.deques d.deques
Accounted t (TakeKept w) c d = At w TakesTop c.workers d.workers × (d.deques ≡ c.deques)
Accounted t (Steal w from) c d = (n : Node) × At w (TakesNode n) c.workers d.workers × At from (LosesFront n) c.deques d.deques
Accounted t (Enter w) c d = At w (EntersNode t) c.workers d.workers × (d.deques ≡ c.deques)

abbrev pub AllAccounted : Rules → List Step → Accounts → Accounts → Type 0
AllAccounted t [] c d = d ≡ c
AllAccounted t (x ∷ xs) c d = (mid : Accounts) × Accounted t x c mid × AllAccounted t xs mid d

-- the accounts are those of what the workers hold
pub record AreAccounts (s : State) (c : Accounts) : Type 0 where
  pub hands : map (λ a. a.hand) c.workers ≡ map (λ x. x.hand) s.workers
  pub kept : map (λ a. a.kept) c.workers ≡ map (λ x. x.kept) s.workers
  pub deques : map (λ q. q.items) c.deques ≡ map (λ x. x.deque) s.workers

-- ---- the balance
-- a deque's nodes, after all that anybody took from it, are those that its owner put on it, in order
abbrev pub IsBalanced : Deque → Type 0
IsBalanced q = q.put ≡ q.taken ++ q.items

-- each worker's account balances from c to d, and each deque's does in d
pub record AllBalance (t : Rules) (c d : Accounts) : Type 0 where
  pub workers : (w : ℕ) (a : Account) → slice_get c.workers w ≡ Some a → (b : Account) × (slice_get d.workers w ≡ Some b) × Balances t a b
  pub deques : All IsBalanced c.deques → All IsBalanced d.deques
