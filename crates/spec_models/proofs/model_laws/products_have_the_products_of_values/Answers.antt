use Rattle.spec_models.proofs.Lists.{at-convolved}
use Rattle.spec_models.proofs.model_laws.products_have_the_products_of_values.Goals as goal

pub returns : goal.returns
returns c = at-convolved
