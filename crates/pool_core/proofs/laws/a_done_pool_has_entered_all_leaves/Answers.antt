use Rattle.pool_core.proofs.Ending.{done_in_order}
use Rattle.pool_core.proofs.laws.a_done_pool_has_entered_all_leaves.Goals as goal

pub returns : goal.returns
returns c = λ t root s sound valid kept done. done_in_order t sound root valid s kept done
