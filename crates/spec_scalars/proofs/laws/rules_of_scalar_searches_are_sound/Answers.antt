use Rattle.spec_scalars.proofs.Sound.{rules_are_sound}
use Rattle.spec_scalars.proofs.laws.rules_of_scalar_searches_are_sound.Goals as goal

pub returns : goal.returns
returns c = λ s is. rules_are_sound s is
