-- What walks of the trees of a search return, and searches by them.
use Rattle.std.specs.Prelude.{◌≡◌, ◌≤◌, ℕ, All, IfErr, IfOk, List, Result, Vec}
use Rattle.std.specs.declared.alloc.Global.{Global}
use Rattle.spec_ephemeris.specs.Ephemeris.{Ephemeris}
use Rattle.spec_trees.specs.declared.tree.Leaf.{Leaf}
use Rattle.spec_trees.specs.declared.tree.Node.{Node}
use Rattle.spec_trees.specs.Tree.{Rules, leaf_count, leaves}
use Rattle.spec_searches.specs.Search.{Search}
use Rattle.spec_stills.specs.declared.still.StillSpan.{StillSpan}
use Rattle.spec_stills.specs.Still.{IsStill}
use Rattle.still_judge.specs.declared.manner.Manner.{Manner}
use Rattle.still_judge.specs.Manners.{rules_in}
use Rattle.spec_outcomes.specs.declared.query.Query.{Query}
use Rattle.spec_outcomes.specs.declared.query.Span.{Span}
use Rattle.spec_outcomes.specs.declared.refusal.Refusal.{Refusal}
use Rattle.spec_outcomes.specs.Outcomes.{Stops}
use Rattle.spec_outcomes.specs.Queries.{search}
use Rattle.gf_search.specs.declared.found.Found.{Found}
use Rattle.gf_search.specs.declared.wanted.Wanted.{Wanted}
use Rattle.gf_search.specs.Wanted.{IsWanted, StopsAt}

-- the leaves of a tree at a node, no more than so many; or memory ran out, or there are more
pub record IsWalk (most : ℕ) (t : Rules) (n : Node) (r : Result (Vec Leaf Global) Refusal) : Type 0 where
  pub leaves : IfOk r (λ found. found.items ≡ leaves t n)
  pub few : IfOk r (λ found. leaf_count t n ≤ most)
  pub stopped : IfErr r (StopsAt most (leaf_count t n))

-- whatever is returned for a manner is a walk of the tree of that manner
abbrev pub Walks : (Manner → Result (Vec Leaf Global) Refusal → Type 0) → ℕ → Search → List StillSpan → Node → Type 0
Walks returned most s xs n = (manner : Manner) (r : Result (Vec Leaf Global) Refusal) → returned manner r → IsWalk most (rules_in manner s xs) n r

-- the leaves that are wanted of a query's search over a span, with still spans of it; or why there are none
pub record IsSearched (wanted : Wanted) (most : ℕ) (q : Query) (e : Ephemeris) (span : Span) (r : Result Found Refusal) : Type 0 where
  pub found : IfOk r (λ found. IsWanted wanted most q e span found.leaves.items)
  pub still : IfOk r (λ found. All (IsStill (search q e)) found.stills)
  pub stopped : IfErr r (λ refusal. Stops most q e span refusal)
