use Rattle.spec_models.proofs.Inclusions.{Includes-negated, Includes-signed_square, Includes-twice_size}
use Rattle.spec_models.proofs.inclusion_laws.functions_keep_inclusion.Goals as goal

pub returns : goal.returns
returns c = record { negated = Includes-negated; signed_square = Includes-signed_square; twice_size = Includes-twice_size }
