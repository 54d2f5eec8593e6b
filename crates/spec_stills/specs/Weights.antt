-- How many leaves of the tree of a search there may be where its eager tree, or its served tree, has one.
use Rattle.std.specs.Prelude.{ℕ, zero, suc, ◌≤◌, ◌*◌, ◌^◌, min, nat_le, List, Option, None, Some, find, if◌then◌else◌}
use Rattle.spec_trees.specs.declared.tree.Leaf.{Leaf}
use Rattle.spec_trees.specs.declared.tree.Node.{Node}
use Rattle.spec_trees.specs.Tree.{IsValid, leaf_count, width}
use Rattle.spec_searches.specs.Found.{rules}
use Rattle.spec_searches.specs.Search.{Search}
use Rattle.spec_stills.specs.declared.still.StillSpan.{StillSpan}
use Rattle.spec_stills.specs.Still.{serves}

-- the fewest halvings that bring a width down to another, where so many do
abbrev pub fewest_halvings : ℕ → ℕ → ℕ → ℕ
fewest_halvings widest w zero = 0
fewest_halvings widest w (suc k) = if nat_le w (2 ^ k * widest) then fewest_halvings widest w k else suc k

-- how often a node that the span serves is halved until it is as narrow as the span asks
abbrev pub halvings_of : StillSpan → Node → ℕ
halvings_of x n = fewest_halvings x.widest (width n) x.halvings

-- the first of the spans that serves the node
abbrev pub first_serving : Search → List StillSpan → Node → Option StillSpan
first_serving s xs n = find (λ x. serves s x n) xs

-- one, or as many as the node has parts that is halved until it is as narrow as the span asks, and no more than it has units
abbrev pub weight_by : Option StillSpan → Node → ℕ
weight_by None n = 1
weight_by (Some x) n = min (2 ^ halvings_of x n) (width n)

abbrev pub weight : Search → List StillSpan → Leaf → ℕ
weight s xs l = weight_by (first_serving s xs l.node) l.node

-- the leaf is a valid node of the search, whose tree has no more leaves below it than it weighs
pub record IsWeighed (s : Search) (xs : List StillSpan) (l : Leaf) : Type 0 where
  pub valid : IsValid (rules s) l.node
  pub enough : leaf_count (rules s) l.node ≤ weight s xs l
