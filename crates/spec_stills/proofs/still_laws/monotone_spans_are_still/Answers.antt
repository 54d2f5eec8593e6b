use Rattle.spec_stills.proofs.Monotone.{monotone_is_still}
use Rattle.spec_stills.proofs.still_laws.monotone_spans_are_still.Goals as goal

pub returns : goal.returns
returns c = λ s x c d is monotone begins ends known signs. monotone_is_still s x c d is monotone begins ends known signs
