use Rattle.spec_spans.proofs.Neighbours.{joined_are, side_by_side}
use Rattle.spec_spans.proofs.laws.windows_of_neighbouring_spans_keep_their_promises.Goals as goal

pub returns-clause-joined : goal.returns-clause-joined
returns-clause-joined c = λ s first time last is left right. joined_are s is first time last left right

pub returns-clause-side_by_side : goal.returns-clause-side_by_side
returns-clause-side_by_side c = λ s first time last is left right. side_by_side s is first time last left right
