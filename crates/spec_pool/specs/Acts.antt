-- What a worker does in one step, and what a list of such acts does to its account.
use Rattle.std.specs.Prelude.{◌≡◌, ℕ, ◌==◌, List, [], ◌∷◌, ◌++◌, if◌then◌else◌}
use Rattle.spec_trees.specs.declared.tree.Node.{Node}
use Rattle.spec_trees.specs.declared.tree.Leaf.{Leaf}
use Rattle.spec_trees.specs.Tree.{Rules}
use Rattle.spec_pool.specs.Accounts.{Account, EntersNode, KeepsRight, PutsRight, TakesNode, TakesTop}

-- what a worker does in one step: it puts the right part of its node on its deque, or on its local stack; it takes a node
-- from some worker's deque, or the top of its local stack; or it enters its node as a leaf
pub data Act : Type 0 where
  Put : Node → Act
  Keep : Act
  Take : ℕ → Node → Act
  TakeTop : Act
  Enter : Leaf → Act

-- ---- its account
-- what the act does to the account of the worker that does it
abbrev pub Does : Rules → Act → Account → Account → Type 0
Does t (Put right) a b = PutsRight t right a b
Does t Keep a b = KeepsRight t a b
Does t (Take from node) a b = TakesNode node a b
Does t TakeTop a b = TakesTop a b
Does t (Enter leaf) a b = EntersNode t a b × (b.entered ≡ a.entered ++ leaf ∷ [])

-- one act after the other, they lead from one account to another
abbrev pub History : Rules → Account → List Act → Account → Type 0
History t a [] b = b ≡ a
History t a (x ∷ xs) b = (mid : Account) × Does t x a mid × History t mid xs b

-- ---- what an act holds
-- the nodes that it puts on the worker's deque
abbrev pub puts : Act → List Node
puts (Put right) = right ∷ []
puts Keep = []
puts (Take from node) = []
puts TakeTop = []
puts (Enter leaf) = []

-- the nodes that it takes from the deque of worker k
abbrev pub takes_from : ℕ → Act → List Node
takes_from k (Take from node) = if from == k then node ∷ [] else []
takes_from k (Put right) = []
takes_from k Keep = []
takes_from k TakeTop = []
takes_from k (Enter leaf) = []

-- the leaves that it enters
abbrev pub enters : Act → List Leaf
enters (Enter leaf) = leaf ∷ []
enters (Put right) = []
enters Keep = []
enters (Take from node) = []
enters TakeTop = []
