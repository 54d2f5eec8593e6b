use Rattle.std.proofs.Common.{rules}
use Rattle.spec_models.proofs.Lists.{length-added, length-multiplied, length-opposite, length-halved, length-convolved}
use Rattle.spec_models.proofs.Coefficients.{length-even, length-longer, same-lists, near-same_coefficients}
use Rattle.spec_models.proofs.model_laws.lists.Goals as goal

pub returns : goal.returns
returns c = search (rules, length-added, length-even, length-multiplied, length-opposite, length-halved, length-convolved, length-longer, same-lists, near-same_coefficients)
