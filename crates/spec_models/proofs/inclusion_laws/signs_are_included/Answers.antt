use Rattle.spec_models.proofs.Inclusions.{Includes-not_negative, Includes-not_positive, Includes-negative}
use Rattle.spec_models.proofs.inclusion_laws.signs_are_included.Goals as goal

pub returns : goal.returns
returns c = record {
  not_negative = Includes-not_negative;
  not_positive = Includes-not_positive;
  negative = Includes-negative;
}
