-- What the commands search by, whoever searches: a call that finds leaves of an ephemeris, one that finds the times of a relation,
-- and one that finds the leaves of a polynomial. Of each call, what it has to take and what it has to return. Times are ticks.
use Rattle.std.specs.Prelude.{◌≡◌, ◌⊎◌, ◌<◌, ◌≤◌, ℕ, true, Option, Result, Err, IfErr, IfOk, Vec}
use Rattle.std.specs.Borrow.{Bor}
use Rattle.std.specs.declared.alloc.Global.{Global}
use Rattle.spec_text.specs.declared.decimals.Decimal.{Decimal}
use Rattle.spec_ephemeris.specs.Ephemeris.{Ephemeris}
use Rattle.spec_trees.specs.declared.tree.Leaf.{Leaf}
use Rattle.spec_requests.specs.declared.limits.TheConstants.{MAX_WORKERS}
use Rattle.spec_requests.specs.declared.request.Relation.{Relation}
use Rattle.spec_requests.specs.declared.request.ScalarAsk.{ScalarAsk}
use Rattle.spec_requests.specs.Limits.{IsScalarWithinLimits}
use Rattle.spec_outcomes.specs.declared.query.Query.{Query}
use Rattle.spec_outcomes.specs.declared.query.Span.{Span}
use Rattle.spec_outcomes.specs.declared.refusal.Refusal.{Refusal}
use Rattle.spec_outcomes.specs.declared.refusal.Refusal.TheVariants.{Memory}
use Rattle.spec_outcomes.specs.Outcomes.{Stops}
use Rattle.spec_outcomes.specs.Queries.{IsQuery, is_within}
use Rattle.spec_outcomes.specs.Scalars.{AreScalarLeaves, found_scalar}
use Rattle.spec_outcomes.specs.Sets.{AreSetsFound, IsSetQuery, SetStops, other_query}
use Rattle.gf_sets.specs.declared.pair.Pair.{Pair}
use Rattle.gf_search.specs.declared.wanted.Wanted.{Wanted}
use Rattle.gf_search.specs.Wanted.{IsWanted}

-- ---- what is asked for
-- from 1 to 64 workers, and a span of an ephemeris that has a block
pub record IsSearchable (workers : ℕ) (e : Ephemeris) (span : Span) : Type 0 where
  pub some : 1 ≤ workers
  pub few : workers ≤ MAX_WORKERS
  pub block : 0 < e.blocks
  pub within : is_within span e ≡ true

-- ---- what is returned
-- the leaves that are wanted of a search of at most so many, or why there are none
pub record AreLeavesReturned (most : ℕ) (wanted : Wanted) (q : Query) (e : Ephemeris) (span : Span) (result : Result (Vec Leaf Global) Refusal) : Type 0 where
  pub found : IfOk result (λ found. IsWanted wanted most q e span found.items)
  pub stopped : IfErr result (λ refusal. Stops most q e span refusal)

-- the sure and the possible times of a relation to the reference of a query and a second one, or why there are none
pub record AreTimesReturned (relation : Relation) (ref2 : Option Decimal) (q : Query) (e : Ephemeris) (span : Span) (result : Result Pair Refusal) : Type 0 where
  pub found : IfOk result (λ pair. AreSetsFound relation q (other_query q ref2) e span pair.sure pair.maybe)
  pub stopped : IfErr result (λ refusal. SetStops relation q (other_query q ref2) e span refusal)

-- the leaves of the search of a polynomial, or why there are none
pub record ArePassingsReturned (ask : ScalarAsk) (result : Result (Vec Leaf Global) Refusal) : Type 0 where
  pub found : IfOk result (λ found. AreScalarLeaves ask found.items)
  pub stopped : IfErr result (λ refusal. (refusal ≡ Memory) ⊎ (found_scalar ask ≡ Err refusal))

-- ---- what finds leaves, by workers, the most leaves, what is wanted, an ephemeris, a query and a span
abbrev pub TakesSearches : (ℕ → ℕ → Wanted → Bor Ephemeris → Bor Query → Span → Type 0) → Type 0
TakesSearches takes = (workers most : ℕ) (wanted : Wanted) (e : Bor Ephemeris) (q : Bor Query) (span : Span)
    → IsQuery q.now → IsSearchable workers e.now span → takes workers most wanted e q span

abbrev pub ReturnsLeaves : (ℕ → ℕ → Wanted → Bor Ephemeris → Bor Query → Span → Result (Vec Leaf Global) Refusal → Type 0) → Type 0
ReturnsLeaves returns = (workers most : ℕ) (wanted : Wanted) (e : Bor Ephemeris) (q : Bor Query) (span : Span) (result : Result (Vec Leaf Global) Refusal)
    → returns workers most wanted e q span result → AreLeavesReturned most wanted q.now e.now span result

-- ---- what finds the times of a relation, by workers, an ephemeris, a query, the second reference, the relation and a span
abbrev pub TakesRelations : (ℕ → Bor Ephemeris → Bor Query → Option Decimal → Relation → Span → Type 0) → Type 0
TakesRelations takes = (workers : ℕ) (e : Bor Ephemeris) (q : Bor Query) (ref2 : Option Decimal) (relation : Relation) (span : Span)
    → IsSetQuery q.now → IsSearchable workers e.now span → takes workers e q ref2 relation span

abbrev pub ReturnsTimes : (ℕ → Bor Ephemeris → Bor Query → Option Decimal → Relation → Span → Result Pair Refusal → Type 0) → Type 0
ReturnsTimes returns = (workers : ℕ) (e : Bor Ephemeris) (q : Bor Query) (ref2 : Option Decimal) (relation : Relation) (span : Span) (result : Result Pair Refusal)
    → returns workers e q ref2 relation span result → AreTimesReturned relation ref2 q.now e.now span result

-- ---- what finds the leaves of a polynomial
abbrev pub TakesPolynomials : (Bor ScalarAsk → Type 0) → Type 0
TakesPolynomials takes = (ask : Bor ScalarAsk) → IsScalarWithinLimits ask.now → takes ask

abbrev pub ReturnsPassings : (Bor ScalarAsk → Result (Vec Leaf Global) Refusal → Type 0) → Type 0
ReturnsPassings returns = (ask : Bor ScalarAsk) (result : Result (Vec Leaf Global) Refusal) → returns ask result → ArePassingsReturned ask.now result
