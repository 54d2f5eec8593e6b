use Rattle.gf_find.proofs.Answered.{one_outcome}
use Rattle.gf_find.proofs.laws.a_run_has_one_outcome.Goals as goal

pub returns : goal.returns
returns c = λ words files before now outcome other known one two. one_outcome words files before now known outcome other one two
