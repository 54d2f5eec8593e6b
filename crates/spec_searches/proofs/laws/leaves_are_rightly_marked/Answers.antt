use Rattle.spec_searches.proofs.Finding.{leaves_are_right}
use Rattle.spec_searches.proofs.laws.leaves_are_rightly_marked.Goals as goal

pub returns : goal.returns
returns c = λ s n is valid. leaves_are_right s is n valid
