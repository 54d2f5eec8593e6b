use Rattle.spec_numbers.proofs.Sizes.{scaled_size}
use Rattle.spec_numbers.proofs.laws.magnitudes_multiply.Goals as goal

pub returns : goal.returns
returns c = scaled_size
