use Rattle.spec_bounds.proofs.StatesAtMiddle.{middle_told}
use Rattle.spec_bounds.proofs.SignsAtMiddle.{sign_told}
use Rattle.spec_bounds.proofs.laws.middles_are_told.Goals as goal

pub returns : goal.returns
returns c = record {
  of_formulas = λ v x a b has fits several. middle_told v a b fits x has;
  of_searches = λ s n is valid open_node. sign_told s n is valid open_node;
}
