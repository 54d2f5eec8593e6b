use Rattle.spec_searches.proofs.Parts.{parts_are, split_may}
use Rattle.spec_searches.proofs.laws.nodes_that_may_be_cut_have_valid_parts.Goals as goal

pub returns-clause-split : goal.returns-clause-split
returns-clause-split c = λ s n e. split_may s n e

pub returns-clause-cuts : goal.returns-clause-cuts
returns-clause-cuts c = λ s n is valid e. (parts_are s is.view n valid e).0

pub returns-clause-left : goal.returns-clause-left
returns-clause-left c = λ s n is valid e. (parts_are s is.view n valid e).1

pub returns-clause-right : goal.returns-clause-right
returns-clause-right c = λ s n is valid e. (parts_are s is.view n valid e).2
