use Rattle.spec_expressions.proofs.Reach.{AllWithin-of}
use Rattle.spec_expressions.proofs.expression_laws.exponents_of_formulas_stay_within_limits.Goals as goal

pub returns : goal.returns
returns c = AllWithin-of
