use Rattle.pool_core.proofs.Interleaved.{is_run}
use Rattle.pool_core.proofs.laws.every_interleaving_is_a_run.Goals as goal

pub returns : goal.returns
returns c = λ t root events accounts interleaves. is_run t root events accounts interleaves
