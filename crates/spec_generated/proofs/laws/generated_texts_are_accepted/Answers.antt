use Rattle.spec_generated.proofs.Accepted.{text_accepted, text_checked}
use Rattle.spec_generated.proofs.laws.generated_texts_are_accepted.Goals as goal

pub returns-clause-no_fault : goal.returns-clause-no_fault
returns-clause-no_fault c blocks seed some few = (text_accepted blocks seed some few).no_fault

pub returns-clause-accepted : goal.returns-clause-accepted
returns-clause-accepted c blocks seed some few = (text_accepted blocks seed some few).accepted

pub returns-clause-checked : goal.returns-clause-checked
returns-clause-checked c blocks seed some few = text_checked blocks seed some few
