use Rattle.spec_stills.proofs.Halvings.{still_within}
use Rattle.spec_stills.proofs.still_laws.spans_within_still_spans_are_still.Goals as goal

pub returns : goal.returns
returns c = λ s x y still from upto widest room sign. still_within s x y still from upto widest room sign
