use Rattle.spec_stills.proofs.Settling.{settled_cover, settled_same}
use Rattle.spec_stills.proofs.settled_laws.settled_leaves_have_the_same_windows.Goals as goal

pub returns-clause-follow : goal.returns-clause-follow
returns-clause-follow c = λ s xs root is valid. settled_cover s xs root is valid

pub returns-clause-windows : goal.returns-clause-windows
returns-clause-windows c = λ s xs root is stills valid. settled_same s xs is stills root valid
