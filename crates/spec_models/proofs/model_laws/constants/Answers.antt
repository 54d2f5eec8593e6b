use Rattle.spec_models.proofs.Values.{near-constant, constant-bounds, constant-other, constant-product}
use Rattle.spec_models.proofs.model_laws.constants.Goals as goal

pub returns : goal.returns
returns c = record {
  near = near-constant;
  low = λ p q g a e s r x. (constant-bounds p q g a e s r x).0;
  high = λ p q g a e s r x. (constant-bounds p q g a e s r x).1;
  other = constant-other;
  product = constant-product;
}
