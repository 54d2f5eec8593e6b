use Rattle.spec_output.proofs.Literals.{absent_line, same_line, reference_line}
use Rattle.spec_output.proofs.laws.faults_of_events_are_reported_by_number_and_name.Goals as goal

pub returns-clause-absent : goal.returns-clause-absent
returns-clause-absent c = absent_line

pub returns-clause-same : goal.returns-clause-same
returns-clause-same c = same_line

pub returns-clause-reference : goal.returns-clause-reference
returns-clause-reference c = reference_line
