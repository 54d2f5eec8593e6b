-- What one worker has to account for. A step of the running pool changes its account as these definitions say, whatever
-- the other workers do meanwhile.
use Rattle.std.specs.Prelude.{◌≡◌, List, [], ◌∷◌, ◌++◌, Option, Some, None, flat_map, IsPermutation, option_to_list}
use Rattle.spec_trees.specs.declared.tree.Node.{Node}
use Rattle.spec_trees.specs.declared.tree.Leaf.{Leaf}
use Rattle.spec_trees.specs.declared.tree.Mark.{Mark}
use Rattle.spec_trees.specs.declared.tree.Verdict.TheVariants.{Split}
use Rattle.spec_trees.specs.Tree.{Rules, mark_of, leaf_of, leaves}

-- what one worker has for itself, and all that it did: the nodes that it put on its deque, those that it took from
-- deques, and the leaves that it entered, in order
pub record Account : Type 0 where
  pub hand : Option Node
  pub kept : List Node
  pub put : List Node
  pub taken : List Node
  pub entered : List Leaf

-- ---- what each step does to the account of the worker that takes it

-- the left part stays in the hand, the right part is put on the deque
pub record PutsRight (t : Rules) (right : Node) (a b : Account) : Type 0 where
  pub node : Node
  pub in_hand : a.hand ≡ Some node
  pub split : t.verdict node ≡ Split
  pub part : right ≡ (t.parts node).1
  pub after : b ≡ record a { hand = Some (t.parts node).0; put = a.put ++ right ∷ [] }

-- the left part stays in the hand, the right part goes on top of the local stack
pub record KeepsRight (t : Rules) (a b : Account) : Type 0 where
  pub node : Node
  pub in_hand : a.hand ≡ Some node
  pub split : t.verdict node ≡ Split
  pub after : b ≡ record a { hand = Some (t.parts node).0; kept = a.kept ++ (t.parts node).1 ∷ [] }

-- a node of some deque comes into the empty hand
pub record TakesNode (node : Node) (a b : Account) : Type 0 where
  pub empty : a.hand ≡ None
  pub after : b ≡ record a { hand = Some node; taken = a.taken ++ node ∷ [] }

-- the top of the local stack comes into the empty hand
pub record TakesTop (a b : Account) : Type 0 where
  pub node : Node
  pub rest : List Node
  pub empty : a.hand ≡ None
  pub top : a.kept ≡ rest ++ node ∷ []
  pub after : b ≡ record a { hand = Some node; kept = rest }

-- the hand's node is not to be split, and is entered as a leaf
pub record EntersNode (t : Rules) (a b : Account) : Type 0 where
  pub node : Node
  pub mark : Mark
  pub in_hand : a.hand ≡ Some node
  pub marked : mark_of (t.verdict node) ≡ Some mark
  pub after : b ≡ record a { hand = None; entered = a.entered ++ leaf_of node mark ∷ [] }

-- ---- the balance

-- the leaves of all nodes, with repetition
abbrev pub leaves_of : Rules → List Node → List Leaf
leaves_of t ns = flat_map (leaves t) ns

-- the nodes that the worker has for itself
abbrev pub own : Account → List Node
own a = option_to_list a.hand ++ a.kept

-- over a piece of work: the leaves of what it had and of what it took are those that it entered, those of what it put
-- on its deque, and those of what it has
pub record Balances (t : Rules) (a b : Account) : Type 0 where
  pub put : List Node
  pub taken : List Node
  pub entered : List Leaf
  pub put_is : b.put ≡ a.put ++ put
  pub taken_is : b.taken ≡ a.taken ++ taken
  pub entered_is : b.entered ≡ a.entered ++ entered
  pub same : IsPermutation (leaves_of t (own a) ++ leaves_of t taken) (entered ++ leaves_of t put ++ leaves_of t (own b))
