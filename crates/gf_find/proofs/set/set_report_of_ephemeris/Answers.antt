use Rattle.std.proofs.Common.{inr}
use Rattle.gf_find.proofs.Relating.{outside_set}
use Rattle.gf_find.proofs.set.set_report_of_ephemeris.Goals as goal

pub returns-in-Err-clause-stopped : goal.returns-in-Err-clause-stopped
returns-in-Err-clause-stopped g c = inr (outside_set c.args.find.now c.args.ref2 c.args.relation c.args.ephemeris.now c.in-Err.refusal c.in-Err.ensures.outside c.in-Err.ensures.refused)
