use Rattle.spec_models.proofs.Inclusions.{Includes-offsets}
use Rattle.spec_models.proofs.inclusion_laws.offsets_include_those_of_inner_spans.Goals as goal

pub returns : goal.returns
returns c = Includes-offsets
