use Rattle.spec_covers.proofs.Units.{ScalesTo-product, RepeatsTo-product}
use Rattle.spec_covers.proofs.laws.products_scale_and_repeat.Goals as goal

pub returns : goal.returns
returns c = record { scaled = ScalesTo-product; repeated = RepeatsTo-product }
