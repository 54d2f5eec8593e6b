use Rattle.spec_searches.proofs.Evidence.{is_evidence}
use Rattle.spec_searches.proofs.laws.enclosures_of_searches_are_true_findings.Goals as goal

pub returns : goal.returns
returns c = λ s n is valid. is_evidence s is n valid
