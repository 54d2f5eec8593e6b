use Rattle.std.proofs.Common.{ℕ, List, subst}
use Rattle.spec_outcomes.specs.declared.refusal.Refusal.{Refusal}
use Rattle.spec_outcomes.specs.Outcomes.{Stops}
use Rattle.spec_outcomes.specs.Queries.{query_of, span_of}
use Rattle.spec_outcomes.proofs.Results.{err_also, ok_also}
use Rattle.gf_find.specs.declared.searched.Searched.{Searched}
use Rattle.gf_find.specs.Outcomes.{HaveEphemeris, HoldEphemeris}
use Rattle.gf_find.specs.Searches.{AreSearched, AreSearchedIn, SearchStops}
use Rattle.gf_find.proofs.Accepted.{has_block, in_seconds}
use Rattle.gf_find.proofs.FoundLeaves.{held_leaves, search_stops}
use Rattle.gf_find.proofs.searched.search_files.Goals as goal

pub in_ticks-counted-requires-clause-seconds : goal.in_ticks-counted-requires-clause-seconds
in_ticks-counted-requires-clause-seconds g c = in_seconds _ _ _ c.in_ok-ephemeris.ensures.accepted

pub search_ephemeris-requires-clause-block : goal.search_ephemeris-requires-clause-block
search_ephemeris-requires-clause-block g c = rw c.in_ticks-counted.ensures (has_block _ _ _ c.in_ok-ephemeris.ensures.accepted)

pub returns-clause-found : goal.returns-clause-found
returns-clause-found g c =
    let find = c.args.find.now in
    let files = g.S.Shelf.files c.args.shelf.now in
    let held : HaveEphemeris files find.files c.in_ok-ephemeris.ephemeris = subst (λ (names : List (List ℕ)). HaveEphemeris files names c.in_ok-ephemeris.ephemeris) c.as_slice.ensures c.in_ok-ephemeris.ensures.accepted in
    ok_also {X = Searched} {E = Refusal} (λ found. AreSearched c.args.wanted c.args.most find c.in_ticks-counted.result found.span found.leaves.items)
    (λ found. HoldEphemeris files find.files (AreSearchedIn c.args.wanted c.args.most find found.span found.leaves.items)) c.search_ephemeris.result
    (λ found is. held_leaves files find c.args.most c.in_ok-ephemeris.ephemeris c.in_ticks-counted.result c.args.wanted found.span found.leaves.items held c.in_ticks-counted.ensures is) c.search_ephemeris.ensures.found

pub returns-clause-stopped : goal.returns-clause-stopped
returns-clause-stopped g c =
    let find = c.args.find.now in
    let files = g.S.Shelf.files c.args.shelf.now in
    let count = g.S.Shelf.faults c.args.shelf.now in
    let now = g.S.Shelf.faults c.ephemeris_of_files.new.shelf in
    let held : HaveEphemeris files find.files c.in_ok-ephemeris.ephemeris = subst (λ (names : List (List ℕ)). HaveEphemeris files names c.in_ok-ephemeris.ephemeris) c.as_slice.ensures c.in_ok-ephemeris.ensures.accepted in
    err_also {X = Searched} {E = Refusal} (λ refusal. Stops c.args.most (query_of find) c.in_ticks-counted.result (span_of find c.in_ticks-counted.result) refusal)
    (λ refusal. SearchStops c.args.most find files count now refusal) c.search_ephemeris.result
    (λ refusal stops. search_stops files find c.args.most c.in_ok-ephemeris.ephemeris c.in_ticks-counted.result count now refusal held c.in_ticks-counted.ensures stops) c.search_ephemeris.ensures.stopped
