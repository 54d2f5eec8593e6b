-- What is wanted of the search that words ask of their files, or why there is nothing. Times are ticks.
use Rattle.std.specs.Prelude.{◌≡◌, ◌⊎◌, ℕ, List, Option, Err}
use Rattle.spec_ephemeris.specs.Ephemeris.{Ephemeris}
use Rattle.spec_ephemeris.specs.Ticks.{in_ticks}
use Rattle.spec_trees.specs.declared.tree.Leaf.{Leaf}
use Rattle.spec_requests.specs.declared.request.FindAsk.{FindAsk}
use Rattle.gf_edges.specs.Edges.{Files}
use Rattle.spec_outcomes.specs.declared.query.Span.{Span}
use Rattle.spec_outcomes.specs.declared.refusal.Refusal.{Refusal}
use Rattle.spec_outcomes.specs.declared.refusal.Refusal.TheVariants.{Memory}
use Rattle.spec_outcomes.specs.Outcomes.{found}
use Rattle.spec_outcomes.specs.Queries.{query_of, span_of}
use Rattle.gf_search.specs.declared.wanted.Wanted.{Wanted}
use Rattle.gf_search.specs.Wanted.{IsWanted}
use Rattle.gf_find.specs.Outcomes.{FilesStop, HoldEphemeris}

-- these are the leaves of the span that is asked of an ephemeris which counts the ticks of the search, at most so many; or
-- leaves that have their windows, where these are wanted
pub record AreSearched (wanted : Wanted) (most : ℕ) (find : FindAsk) (e : Ephemeris) (span : Span) (ls : List Leaf) : Type 0 where
  pub span_is : span ≡ span_of find e
  pub found : IsWanted wanted most (query_of find) e span ls

-- the same over the ephemeris of its files, which counts seconds
abbrev pub AreSearchedIn : Wanted → ℕ → FindAsk → Span → List Leaf → Ephemeris → Type 0
AreSearchedIn wanted most find span ls e = AreSearched wanted most find (in_ticks find.tick e) span ls

-- memory ran out, the files are refused, or their ephemeris has a cause against the search
abbrev pub SearchStops : ℕ → FindAsk → Option Files → ℕ → ℕ → Refusal → Type 0
SearchStops most find files count now refusal =
    (refusal ≡ Memory) ⊎ (FilesStop files find.files count now refusal
    ⊎ HoldEphemeris files find.files (λ e. found most (query_of find) (in_ticks find.tick e) (span_of find (in_ticks find.tick e)) ≡ Err refusal))
