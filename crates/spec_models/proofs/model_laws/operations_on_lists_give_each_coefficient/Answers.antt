use Rattle.std.proofs.Common.{rules}
use Rattle.spec_models.proofs.Coefficients.{coefficient-added, coefficient-multiplied, coefficient-opposite, coefficient-halved, coefficient-convolved, coefficient-take, coefficient-drop}
use Rattle.spec_models.proofs.model_laws.operations_on_lists_give_each_coefficient.Goals as goal

pub returns : goal.returns
returns c = search (rules, coefficient-added, coefficient-multiplied, coefficient-opposite, coefficient-halved, coefficient-convolved, coefficient-take, coefficient-drop)
