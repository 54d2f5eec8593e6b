-- Nodes of a search and the signs of its function at their ends, and times at which the conditions of its event hold.
use Rattle.std.specs.Prelude.{◌≡◌, true, All, ℤ, ◌≤ℤ◌}
use Rattle.spec_intervals.specs.declared.signs.Sign.{Sign}
use Rattle.spec_trees.specs.declared.tree.Node.{Node}
use Rattle.spec_trees.specs.Tree.{IsValid}
use Rattle.spec_searches.specs.Found.{rules}
use Rattle.spec_searches.specs.Search.{Search}
use Rattle.spec_bounds.specs.Steady.{is_certified_at, sign_at}

-- the node is valid, and these are the signs of the function at its ends
pub record HasEndSigns (s : Search) (n : Node) (first last : Sign) : Type 0 where
  pub valid : IsValid (rules s) n
  pub at_first : sign_at s n.a ≡ first
  pub at_last : sign_at s n.b ≡ last

-- by its enclosure at this time alone, each condition holds then
abbrev pub AreCertifiedAt : Search → ℤ → Type 0
AreCertifiedAt s t = All (λ c. is_certified_at s t c ≡ true) s.event.conditions

-- a time of the node at which each condition holds
pub record AreCertifiedIn (s : Search) (n : Node) (t : ℤ) : Type 0 where
  pub from : n.a ≤ℤ t
  pub upto : t ≤ℤ n.b
  pub certified : AreCertifiedAt s t
