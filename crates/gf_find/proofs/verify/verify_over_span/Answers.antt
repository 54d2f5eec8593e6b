use Rattle.gf_find.proofs.Verifying.{fault_refused}
use Rattle.gf_find.proofs.verify.verify_over_span.Goals as goal

pub returns-in-Err-clause-stopped : goal.returns-in-Err-clause-stopped
returns-in-Err-clause-stopped g c =
    fault_refused (g.S.Shelf.files c.args.shelf.now) c.args.find.now c.args.cert.now (g.S.Shelf.faults c.args.shelf.now) (g.S.Shelf.faults c.args.shelf.now) c.args.ephemeris.now
    c.query_of-query.result c.args.span c.query_of-query.ensures c.requires.span c.requires.within c.in-Err.refusal c.in-Err.ensures.refused
