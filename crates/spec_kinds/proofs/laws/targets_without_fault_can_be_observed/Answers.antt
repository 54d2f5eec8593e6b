use Rattle.spec_kinds.proofs.Served.{present, apart, viewed}
use Rattle.spec_kinds.proofs.laws.targets_without_fault_can_be_observed.Goals as goal

pub returns-clause-present : goal.returns-clause-present
returns-clause-present c = present

pub returns-clause-apart : goal.returns-clause-apart
returns-clause-apart c = apart

pub returns-clause-view : goal.returns-clause-view
returns-clause-view c = viewed
