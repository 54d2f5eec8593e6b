use Rattle.std.proofs.Common.{refl}
use Rattle.spec_spans.proofs.examples.some_blocks_have_their_start_and_numbers.Goals as goal

pub returns : goal.returns
returns c = record { start = refl; last_two = refl }
