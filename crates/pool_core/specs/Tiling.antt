-- What every run keeps: the nodes of all places, put in order, tile the root.
use Rattle.std.specs.Prelude.{◌≡◌, ℕ, ◌+◌, ◌*◌, ◌-◌, ℤ, ◌<ℤ◌, List, [], ◌∷◌, ◌++◌, map, flat_map, sum_by, All, IsPermutation, option_to_list}
use Rattle.spec_trees.specs.declared.tree.Node.{Node}
use Rattle.spec_trees.specs.Tree.{Rules, IsValid, AreLeaves, leaf_count, leaves}
use Rattle.pool_core.specs.States.{Holding, nothing, State}

-- the nodes that a worker holds
abbrev pub held : Holding → List Node
held x = option_to_list x.hand ++ x.deque ++ x.kept

-- the nodes in all hands, deques, local stacks and in the entered list
abbrev pub nodes : State → List Node
nodes s = flat_map held s.workers ++ map (λ l. l.node) s.entered

-- the nodes follow one another from a to b, without gap or overlap
abbrev pub Follow : ℤ → List Node → ℤ → Type 0
Follow a [] b = a ≡ b
Follow a (n ∷ ns) b = (n.a ≡ a) × (n.a <ℤ n.b) × Follow n.b ns b

-- the nodes are valid, follow one another from the root's a to its b, and their leaves, joined, are the root's
pub record Tiles (t : Rules) (root : Node) (ns : List Node) : Type 0 where
  pub valid : All (IsValid t) ns
  pub follow : Follow root.a ns root.b
  pub joined : flat_map (leaves t) ns ≡ leaves t root

-- all nodes of the pool, put in order, tile the root, and what is entered are leaves
pub record Conserves (t : Rules) (root : Node) (s : State) : Type 0 where
  pub ordered : List Node
  pub same : IsPermutation (nodes s) ordered
  pub tiles : Tiles t root ordered
  pub entered : AreLeaves t s.entered

-- the steps that are left for a worker: 3n - 2 for a node of n leaves in its hand, 3n - 1 for one that lies elsewhere
abbrev pub todo_of : Rules → Holding → ℕ
todo_of t x = sum_by (λ n. 3 * leaf_count t n - 2) (option_to_list x.hand) + sum_by (λ n. 3 * leaf_count t n - 1) (x.deque ++ x.kept)

abbrev pub todo : Rules → State → ℕ
todo t s = sum_by (todo_of t) s.workers

-- no worker holds a node
abbrev pub IsDone : State → Type 0
IsDone s = All (λ x. x ≡ nothing) s.workers
