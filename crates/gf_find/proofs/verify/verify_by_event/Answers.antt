use Rattle.std.proofs.Common.{subst, sym}
use Rattle.spec_trees.specs.Tree.{IsValid}
use Rattle.spec_searches.specs.Search.{Search}
use Rattle.spec_searches.specs.Found.{root, rules}
use Rattle.spec_outcomes.proofs.Searching.{root_valid}
use Rattle.spec_outcomes.proofs.SpanTimes.{from_is, upto_is}
use Rattle.gf_find.proofs.FoundLeaves.{asked_is}
use Rattle.gf_find.proofs.Verifying.{certificate_refused, certificate_verified}
use Rattle.gf_find.proofs.verify.verify_by_event.Goals as goal

pub judge-judge-requires-clause-query : goal.judge-judge-requires-clause-query
judge-judge-requires-clause-query g c = asked_is c.args.find.now _ c.query_of-query.ensures c.requires.limits

pub verify_certificate_file-requires-clause-from : goal.verify_certificate_file-requires-clause-from
verify_certificate_file-requires-clause-from g c = from_is _ c.args.ephemeris.now c.requires.start c.requires.end c.args.span c.requires.within

pub verify_certificate_file-requires-clause-upto : goal.verify_certificate_file-requires-clause-upto
verify_certificate_file-requires-clause-upto g c = upto_is _ c.args.ephemeris.now c.requires.start c.requires.end c.args.span c.requires.within

pub verify_certificate_file-requires-clause-valid : goal.verify_certificate_file-requires-clause-valid
verify_certificate_file-requires-clause-valid g c =
    subst (λ (s : Search). IsValid (rules s) (root c.args.span.from c.args.span.upto)) (sym c.judge-judge.ensures)
    (root_valid c.query_of-query.result c.args.ephemeris.now c.args.span c.requires.within)

pub returns-clause-verified : goal.returns-clause-verified
returns-clause-verified g c =
    certificate_verified (g.S.Shelf.files c.args.shelf.now) c.args.find.now c.args.cert.now 0 0 c.args.ephemeris.now c.query_of-query.result c.args.span
    c.query_of-query.ensures c.requires.span c.requires.within c.requires.sound c.judge-judge.result.search c.judge-judge.ensures c.verify_certificate_file.result c.verify_certificate_file.ensures.verified

pub returns-clause-stopped : goal.returns-clause-stopped
returns-clause-stopped g c =
    certificate_refused (g.S.Shelf.files c.args.shelf.now) c.args.find.now c.args.cert.now (g.S.Shelf.faults c.args.shelf.now) (g.S.Shelf.faults c.verify_certificate_file.new.shelf) c.args.ephemeris.now c.query_of-query.result c.args.span
    c.query_of-query.ensures c.requires.span c.requires.within c.requires.sound c.judge-judge.result.search c.judge-judge.ensures c.verify_certificate_file.result c.verify_certificate_file.ensures.stopped
