use Rattle.pool_core.proofs.Interleaved.{keeps_laws, all_entered}
use Rattle.pool_core.proofs.laws.every_interleaving_keeps_the_laws.Goals as goal

pub returns-clause-laws : goal.returns-clause-laws
returns-clause-laws c = λ t root events accounts sound valid interleaves. keeps_laws t root events accounts interleaves sound valid

pub returns-clause-all : goal.returns-clause-all
returns-clause-all c = λ t root events accounts sound valid interleaves rest. all_entered t root events accounts interleaves sound valid rest
