use Rattle.std.proofs.Common.{sym, subst}
use Rattle.spec_trees.specs.declared.tree.Node.{Node}
use Rattle.spec_trees.specs.Tree.{IsValid}
use Rattle.spec_searches.specs.Search.{Search}
use Rattle.spec_searches.specs.Found.{rules}
use Rattle.spec_outcomes.specs.Queries.{search}
use Rattle.spec_outcomes.proofs.Searching.{root_valid}
use Rattle.std.specs.Prelude.{All, IfOk}
use Rattle.spec_stills.specs.Still.{IsStill}
use Rattle.spec_outcomes.specs.declared.refusal.Refusal.{Refusal}
use Rattle.spec_outcomes.proofs.Results.{ok_also}
use Rattle.gf_search.specs.declared.found.Found.{Found}
use Rattle.gf_search.specs.Wanted.{AreWanted, IsWanted}
use Rattle.gf_search.proofs.Outcomes.{leaves_stopped, wanted_found}
use Rattle.gf_search.proofs.by_crew.found_by_crew.Goals as goal

pub found_of_named_search_by_crew-requires-clause-valid : goal.found_of_named_search_by_crew-requires-clause-valid
found_of_named_search_by_crew-requires-clause-valid g c κs lives =
    let q = c.args.query.now in
    let e = c.args.ephemeris.now in
    let valid = root_valid q e c.args.span c.requires.within in
    subst (λ (s : Search). IsValid (rules s) c.root_of-root.result) (sym c.judge-judge.ensures)
    (subst (λ (n : Node). IsValid (rules (search q e)) n) (sym c.root_of-root.ensures) valid)

pub returns-clause-found : goal.returns-clause-found
returns-clause-found g c =
    let most = c.args.crew.now.max_leaves in
    let q = c.args.query.now in
    let e = c.args.ephemeris.now in
    let s = c.judge-judge.result.search in
    let n = c.root_of-root.result in
    ok_also {X = Found} {E = Refusal} (λ found. AreWanted c.args.wanted most s n found.leaves.items) (λ found. IsWanted c.args.wanted most q e c.args.span found.leaves.items) c.found_of_named_search_by_crew.result
    (λ found are. wanted_found most q e c.args.span c.requires.within c.in_ok-event.ensures.sound s n c.judge-judge.ensures c.root_of-root.ensures c.header-header.ensures.checked c.requires.block c.requires.query c.args.wanted found.leaves.items are)
    c.found_of_named_search_by_crew.ensures.found

pub returns-clause-still : goal.returns-clause-still
returns-clause-still g c =
    subst (λ (s : Search). IfOk c.found_of_named_search_by_crew.result (λ found. All (IsStill s) found.stills)) c.judge-judge.ensures c.found_of_named_search_by_crew.ensures.still

pub returns-clause-stopped : goal.returns-clause-stopped
returns-clause-stopped g c =
    leaves_stopped c.args.crew.now.max_leaves c.args.query.now c.args.ephemeris.now c.args.span c.requires.within c.in_ok-event.ensures.sound c.judge-judge.result.search c.root_of-root.result c.judge-judge.ensures c.root_of-root.ensures
    c.found_of_named_search_by_crew.result c.found_of_named_search_by_crew.ensures.stopped
