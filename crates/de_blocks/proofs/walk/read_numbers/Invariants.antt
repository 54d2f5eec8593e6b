use Rattle.std.proofs.Common.{◌≡◌, length}
use Rattle.de_blocks.specs.Steps.{wanted}
use Rattle.de_blocks.proofs.Walking.{IsOn}
use Rattle.de_blocks.proofs.walk.read_numbers.Given as goal

abbrev pub invariant-loop-count : goal.invariant-loop-count
invariant-loop-count l = IsOn l.fn.block l.block l.fn.words l.words × (l.count ≡ length l.block.numbers)

abbrev pub decreases-loop-count : goal.decreases-loop-count
decreases-loop-count l = wanted l.fn.block.accepted l.block.numbers
