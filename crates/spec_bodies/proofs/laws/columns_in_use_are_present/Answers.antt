use Rattle.spec_bodies.proofs.InUse.{present_in_use}
use Rattle.spec_bodies.proofs.laws.columns_in_use_are_present.Goals as goal

pub returns : goal.returns
returns c = present_in_use
