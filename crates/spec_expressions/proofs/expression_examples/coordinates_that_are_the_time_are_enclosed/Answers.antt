use Rattle.spec_expressions.proofs.Clock.{AllFractions-clock, IsEnclosure-clock, AllWithin-clock}
use Rattle.spec_expressions.proofs.expression_examples.coordinates_that_are_the_time_are_enclosed.Goals as goal

pub returns : goal.returns
returns c = record { numbers = AllFractions-clock; holds = IsEnclosure-clock; within = AllWithin-clock }
