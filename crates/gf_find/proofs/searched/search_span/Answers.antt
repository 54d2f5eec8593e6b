use Rattle.gf_find.proofs.FoundLeaves.{asked_is, found_asked, stops_asked}
use Rattle.gf_find.proofs.searched.search_span.Goals as goal

pub leaves-requires : goal.leaves-requires
leaves-requires g c =
    let limits = c.requires.limits in
    c.requires.takes_searches _ _ _ _ _ _ (asked_is c.args.find.now _ c.query_of-query.ensures limits)
    (record { some = limits.some_workers; few = limits.workers; block = c.requires.block; within = c.requires.within })

pub returns-in-Ok-clause-found : goal.returns-in-Ok-clause-found
returns-in-Ok-clause-found g c = found_asked c.args.most c.args.find.now c.args.ephemeris.now c.query_of-query.result c.args.span c.args.wanted c.in-Ok.leaves.items c.query_of-query.ensures c.requires.span
    (c.requires.returns_leaves _ _ _ _ _ _ _ c.in-Ok.ensures).found

pub returns-in-Err-clause-stopped : goal.returns-in-Err-clause-stopped
returns-in-Err-clause-stopped g c = stops_asked c.args.most c.args.find.now c.args.ephemeris.now c.query_of-query.result c.args.span c.in-Err.refusal c.query_of-query.ensures c.requires.span
    (c.requires.returns_leaves _ _ _ _ _ _ _ c.in-Err.ensures).stopped
