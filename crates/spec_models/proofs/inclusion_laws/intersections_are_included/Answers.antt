use Rattle.spec_models.proofs.Inclusions.{Includes-meet}
use Rattle.spec_models.proofs.inclusion_laws.intersections_are_included.Goals as goal

pub returns : goal.returns
returns c = Includes-meet
