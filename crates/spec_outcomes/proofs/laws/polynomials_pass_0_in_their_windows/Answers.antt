use Rattle.spec_outcomes.proofs.Passings.{passings_are}
use Rattle.spec_outcomes.proofs.laws.polynomials_pass_0_in_their_windows.Goals as goal

pub returns : goal.returns
returns c = λ ask limits ordered. passings_are ask limits ordered
