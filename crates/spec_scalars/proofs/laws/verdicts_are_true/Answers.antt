use Rattle.spec_judged.proofs.Finding.{clear_holds_none, one_holds_one}
use Rattle.spec_scalars.specs.Searches.{judged_by}
use Rattle.spec_scalars.proofs.Sound.{is_judged}
use Rattle.spec_scalars.proofs.laws.verdicts_are_true.Goals as goal

pub returns-clause-clear : goal.returns-clause-clear
returns-clause-clear c = λ s n is valid e. clear_holds_none (judged_by s) (is_judged s is) n valid e

pub returns-clause-one : goal.returns-clause-one
returns-clause-one c = λ s n turn is valid e. one_holds_one (judged_by s) (is_judged s is) n valid turn e
