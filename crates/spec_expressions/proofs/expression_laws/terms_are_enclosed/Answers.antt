use Rattle.spec_expressions.proofs.Induction.{AllFractions-of, IsEnclosure-of}
use Rattle.spec_expressions.proofs.expression_laws.terms_are_enclosed.Goals as goal

pub returns-clause-numbers : goal.returns-clause-numbers
returns-clause-numbers c = AllFractions-of

pub returns-clause-holds : goal.returns-clause-holds
returns-clause-holds c = IsEnclosure-of
