use Rattle.pool_core.proofs.Exchanging.{may_change_places}
use Rattle.pool_core.proofs.laws.acts_on_different_deques_may_change_places.Goals as goal

pub returns : goal.returns
returns c = λ t root front d e back accounts apart interleaves. may_change_places t root front d e back accounts apart interleaves
