use Rattle.spec_text.proofs.Plain.{decimal_plain}
use Rattle.spec_text.proofs.laws.decimals_are_plain.Goals as goal

pub returns : goal.returns
returns c = decimal_plain
