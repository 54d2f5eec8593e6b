use Rattle.spec_judged.proofs.Finding.{leaves_are_right}
use Rattle.spec_judged.proofs.laws.leaves_are_rightly_marked.Goals as goal

pub returns : goal.returns
returns c = λ s ls is are. leaves_are_right s is ls are
