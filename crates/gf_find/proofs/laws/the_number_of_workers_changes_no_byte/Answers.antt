use Rattle.gf_find.proofs.Workers.{same_outcome}
use Rattle.gf_find.proofs.laws.the_number_of_workers_changes_no_byte.Goals as goal

pub returns : goal.returns
returns c = same_outcome
