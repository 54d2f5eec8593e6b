use Rattle.spec_text.proofs.Answering.{bounds}
use Rattle.spec_text.proofs.laws.decimals_are_bounded.Goals as goal

pub returns : goal.returns
returns c = bounds
