-- The pool as a state machine, without threads, locks or memory: what each worker holds, the leaves that are entered,
-- and the six steps.
use Rattle.std.specs.Prelude.{◌≡◌, ◌≢◌, ℕ, ◌-◌, List, [], ◌∷◌, ◌++◌, Option, Some, None, slice_get, slice_set, replicate}
use Rattle.spec_trees.specs.declared.tree.Node.{Node}
use Rattle.spec_trees.specs.declared.tree.Leaf.{Leaf}
use Rattle.spec_trees.specs.declared.tree.Mark.{Mark}
use Rattle.spec_trees.specs.declared.tree.Verdict.TheVariants.{Split}
use Rattle.spec_trees.specs.Tree.{Rules, mark_of, leaf_of}
use Rattle.pool_core.specs.declared.step.Step.{Step}
use Rattle.pool_core.specs.declared.step.Step.TheVariants.{Push, Keep, Pop, TakeKept, Steal, Enter}

-- what one worker holds: the node in its hand, its deque with the front first, its local stack with the top last
pub record Holding : Type 0 where
  pub hand : Option Node
  pub deque : List Node
  pub kept : List Node

abbrev pub holding : Option Node → List Node → List Node → Holding
holding hand deque kept = record { hand = hand; deque = deque; kept = kept }

abbrev pub nothing : Holding
nothing = holding None [] []

-- what each worker holds, and the leaves that are entered, in order of arrival
pub record State : Type 0 where
  pub workers : List Holding
  pub entered : List Leaf

abbrev pub state : List Holding → List Leaf → State
state workers entered = record { workers = workers; entered = entered }

-- the root in the hand of worker 0, and nothing elsewhere
abbrev pub opening : Node → ℕ → State
opening root workers = state (holding (Some root) [] [] ∷ replicate (workers - 1) nothing) []

-- ---- what each step does to what a worker holds

-- the left part stays in the hand, the right part goes to the back of the deque
pub record Pushes (t : Rules) (x y : Holding) : Type 0 where
  pub node : Node
  pub in_hand : x.hand ≡ Some node
  pub split : t.verdict node ≡ Split
  pub after : y ≡ holding (Some (t.parts node).0) (x.deque ++ (t.parts node).1 ∷ []) x.kept

-- the left part stays in the hand, the right part goes on top of the local stack
pub record Keeps (t : Rules) (x y : Holding) : Type 0 where
  pub node : Node
  pub in_hand : x.hand ≡ Some node
  pub split : t.verdict node ≡ Split
  pub after : y ≡ holding (Some (t.parts node).0) x.deque (x.kept ++ (t.parts node).1 ∷ [])

-- the front of the deque comes into the empty hand
pub record Pops (x y : Holding) : Type 0 where
  pub node : Node
  pub rest : List Node
  pub empty : x.hand ≡ None
  pub front : x.deque ≡ node ∷ rest
  pub after : y ≡ holding (Some node) rest x.kept

-- the top of the local stack comes into the empty hand
pub record TakesKept (x y : Holding) : Type 0 where
  pub node : Node
  pub rest : List Node
  pub empty : x.hand ≡ None
  pub top : x.kept ≡ rest ++ node ∷ []
  pub after : y ≡ holding (Some node) x.deque rest

-- a node comes into the empty hand
pub record Gets (node : Node) (x y : Holding) : Type 0 where
  pub empty : x.hand ≡ None
  pub after : y ≡ holding (Some node) x.deque x.kept

-- the front of the deque goes away
pub record GivesUp (node : Node) (x y : Holding) : Type 0 where
  pub rest : List Node
  pub front : x.deque ≡ node ∷ rest
  pub after : y ≡ holding x.hand rest x.kept

-- the hand's node is not to be split, and goes away as this leaf
pub record Enters (t : Rules) (leaf : Leaf) (x y : Holding) : Type 0 where
  pub node : Node
  pub mark : Mark
  pub in_hand : x.hand ≡ Some node
  pub marked : mark_of (t.verdict node) ≡ Some mark
  pub entered : leaf ≡ leaf_of node mark
  pub after : y ≡ holding None x.deque x.kept

-- ---- what each step does to the pool

-- the element at w goes by R, and the others stay
pub record At {A : Type 0} (w : ℕ) (R : A → A → Type 0) (xs ys : List A) : Type 0 where
  pub old : A
  pub new : A
  pub here : slice_get xs w ≡ Some old
  pub goes : R old new
  pub others : ys ≡ slice_set xs w new

-- the front of another worker's deque comes into the empty hand of w
pub record Steals (w from : ℕ) (xs ys : List Holding) : Type 0 where
  pub node : Node
  pub between : List Holding
  pub apart : from ≢ w
  pub gives : At from (GivesUp node) xs between
  pub gets : At w (Gets node) between ys

-- the state s accepts the step, and becomes s'
abbrev pub Steps : Rules → State → Step → State → Type 0
Steps t s (Push w) s' = At w (Pushes t) s.workers s'.workers × (s'.entered ≡ s.entered)
Steps t s (Keep w) s' = At w (Keeps t) s.workers s'.workers × (s'.entered ≡ s.entered)
Steps t s (Pop w) s' = At w Pops s.workers s'.workers × (s'.entered ≡ s.entered)
Steps t s (TakeKept w) s' = At w TakesKept s.workers s'.workers × (s'.entered ≡ s.entered)
Steps t s (Steal w from) s' = Steals w from s.workers s'.workers × (s'.entered ≡ s.entered)
Steps t s (Enter w) s' = (leaf : Leaf) × At w (Enters t leaf) s.workers s'.workers × (s'.entered ≡ s.entered ++ leaf ∷ [])

-- no state comes of the step
abbrev pub Refuses : Rules → State → Step → Type 0
Refuses t s x = (s' : State) → ¬ Steps t s x s'

-- each of the steps is accepted, one after the other
abbrev pub Runs : Rules → State → List Step → State → Type 0
Runs t s [] s' = s' ≡ s
Runs t s (x ∷ xs) s' = (mid : State) × Steps t s x mid × Runs t mid xs s'
