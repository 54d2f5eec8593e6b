use Rattle.std.proofs.Common.{inr}
use Rattle.gf_find.proofs.Verifying.{outside_refused}
use Rattle.gf_find.proofs.verify.verify_over_ephemeris.Goals as goal

pub returns-in-Err-clause-stopped : goal.returns-in-Err-clause-stopped
returns-in-Err-clause-stopped g c =
    inr (outside_refused (g.S.Shelf.files c.args.shelf.now) c.args.find.now c.args.cert.now (g.S.Shelf.faults c.args.shelf.now) (g.S.Shelf.faults c.args.shelf.now) c.args.ephemeris.now c.in-Err.refusal c.in-Err.ensures.outside c.in-Err.ensures.refused)
