use Rattle.spec_outcomes.proofs.SetOutcomes.{fault_stops_sets, leaves_stop_sets, other_fault_stops, other_leaves_stop, outside_stops_sets}
use Rattle.spec_outcomes.proofs.set_laws.sets_are_refused_for_their_first_cause.Goals as goal

pub returns-clause-outside : goal.returns-clause-outside
returns-clause-outside c = outside_stops_sets

pub returns-clause-first : goal.returns-clause-first
returns-clause-first c = fault_stops_sets

pub returns-clause-second : goal.returns-clause-second
returns-clause-second c = other_fault_stops

pub returns-clause-first_leaves : goal.returns-clause-first_leaves
returns-clause-first_leaves c = leaves_stop_sets

pub returns-clause-second_leaves : goal.returns-clause-second_leaves
returns-clause-second_leaves c = other_leaves_stop
