use Rattle.spec_models.proofs.Inclusions.{IncludesEnclosure-parts}
use Rattle.spec_models.proofs.inclusion_laws.bounds_include_enclosures.Goals as goal

pub returns : goal.returns
returns c = IncludesEnclosure-parts
