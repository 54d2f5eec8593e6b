use Rattle.spec_faults.specs.Faults.{fault_kind}
use Rattle.spec_faults.proofs.table.fault_kind.Goals as goal

pub returns-clause-found : goal.returns-clause-found
unfolding fault_kind
returns-clause-found c = c.kind_among.ensures.found

pub returns-clause-not_found : goal.returns-clause-not_found
unfolding fault_kind
returns-clause-not_found c = c.kind_among.ensures.not_found
