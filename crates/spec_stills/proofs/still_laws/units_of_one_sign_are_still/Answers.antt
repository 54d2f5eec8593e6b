use Rattle.spec_stills.proofs.Units.{unit_is_still}
use Rattle.spec_stills.proofs.still_laws.units_of_one_sign_are_still.Goals as goal

pub returns : goal.returns
returns c = λ s t widest sign is some known first last. unit_is_still s t widest sign is some known first last
