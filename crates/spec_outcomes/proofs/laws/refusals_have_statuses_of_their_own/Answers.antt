use Rattle.spec_outcomes.proofs.TextStatuses.{not_reported, not_unwritten}
use Rattle.spec_outcomes.proofs.laws.refusals_have_statuses_of_their_own.Goals as goal

pub returns-clause-reported : goal.returns-clause-reported
returns-clause-reported c = not_reported

pub returns-clause-unwritten : goal.returns-clause-unwritten
returns-clause-unwritten c = not_unwritten
