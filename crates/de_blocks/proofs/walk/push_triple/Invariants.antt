use Rattle.std.proofs.Common.{◌≡◌, ◌+◌, length, drop}
use Rattle.de_blocks.proofs.Walking.{IsOn}
use Rattle.de_blocks.proofs.walk.push_triple.Given as goal

abbrev pub invariant-loop-i : goal.invariant-loop-i
invariant-loop-i l = IsOn l.fn.block l.block l.line.tokens (drop l.i l.line.tokens) × (length l.fn.block.numbers + l.i ≡ length l.block.numbers)
