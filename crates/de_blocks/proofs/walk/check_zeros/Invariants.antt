use Rattle.std.proofs.Common.{◌≡◌}
use Rattle.de_blocks.specs.Steps.{zeros_on}
use Rattle.de_blocks.proofs.walk.check_zeros.Given as goal

abbrev pub invariant-loop-word : goal.invariant-loop-word
invariant-loop-word l = zeros_on l.word-iterator ≡ zeros_on l.fn.words
