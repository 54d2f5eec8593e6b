use Rattle.spec_outcomes.specs.Queries.{search}
use Rattle.spec_outcomes.specs.Sets.{other_query, signs_in}
use Rattle.spec_outcomes.proofs.SetSigns.{other_is}
use Rattle.gf_search.proofs.Joining.{has_sets, related_are_found}
use Rattle.gf_search.proofs.relations.related_times.Goals as goal

pub times_in_relation-requires-clause-span : goal.times_in_relation-requires-clause-span
times_in_relation-requires-clause-span g c =
    has_sets c.args.query.now c.args.task.now.ephemeris.now c.args.task.now.span c.header-header.ensures.checked c.args.task.now.block c.requires.query c.args.task.now.within c.in_ok-both.ensures.sound

pub returns-clause-found : goal.returns-clause-found
returns-clause-found g c =
    let q = c.args.query.now in
    let e = c.args.task.now.ephemeris.now in
    let r = other_query q c.args.ref2 in
    let first = c.in_ok-both.ensures.first in
    let second = c.in_ok-both.ensures.second in
    related_are_found c.args.relation q r e c.args.task.now.span c.header-header.ensures.checked c.args.task.now.block c.requires.query (other_is q c.args.ref2 c.requires.query) c.args.task.now.within
    c.in_ok-both.ensures.sound c.in_ok-both.ensures.other_sound _ _ _ _ first second c.in_ok-pair.pair.sure c.in_ok-pair.pair.maybe
    c.list-sure.ensures.spans c.list-maybe.ensures.spans
    (c.in_ok-pair.ensures (signs_in (search q e) c.args.task.now.span) (signs_in (search r e) c.args.task.now.span) first.sets second.sets)
