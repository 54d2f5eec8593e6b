use Rattle.spec_scalars.proofs.Passings.{falls, rises}
use Rattle.spec_scalars.proofs.laws.events_are_where_scalars_pass_0.Goals as goal

pub returns-clause-rises : goal.returns-clause-rises
returns-clause-rises c = rises

pub returns-clause-falls : goal.returns-clause-falls
returns-clause-falls c = falls
