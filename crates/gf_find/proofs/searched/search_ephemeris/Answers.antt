use Rattle.std.proofs.Common.{inr}
use Rattle.gf_find.proofs.FoundLeaves.{outside_is}
use Rattle.gf_find.proofs.searched.search_ephemeris.Goals as goal

pub returns-in-Err-clause-stopped : goal.returns-in-Err-clause-stopped
returns-in-Err-clause-stopped g c = inr (outside_is c.args.most c.args.find.now c.args.ephemeris.now c.in-Err.refusal c.in-Err.ensures.outside c.in-Err.ensures.refused)
