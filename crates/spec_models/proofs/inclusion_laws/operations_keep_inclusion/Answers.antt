use Rattle.spec_models.proofs.Inclusions.{Includes-sum, Includes-difference, Includes-product}
use Rattle.spec_models.proofs.inclusion_laws.operations_keep_inclusion.Goals as goal

pub returns : goal.returns
returns c = record { sum = Includes-sum; difference = Includes-difference; product = Includes-product }
