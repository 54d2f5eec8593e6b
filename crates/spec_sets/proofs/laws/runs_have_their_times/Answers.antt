use Rattle.spec_sets.proofs.Runs.{are_spans_of, spans_of_are, spans_of_have}
use Rattle.spec_sets.proofs.laws.runs_have_their_times.Goals as goal

pub returns-clause-spans : goal.returns-clause-spans
returns-clause-spans c = spans_of_are

pub returns-clause-times : goal.returns-clause-times
returns-clause-times c = spans_of_have

pub returns-clause-only : goal.returns-clause-only
returns-clause-only c = are_spans_of
