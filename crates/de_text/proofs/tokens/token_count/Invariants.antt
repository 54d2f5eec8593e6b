use Rattle.std.proofs.Common.{◌≡◌, ◌+◌, ◌≤◌, length}
use Rattle.spec_text.specs.Lines.{tokens}
use Rattle.de_text.proofs.tokens.token_count.Given as goal

abbrev pub invariant-loop-after : goal.invariant-loop-after
invariant-loop-after l = record { counted : l.count + length (tokens l.rest) ≡ length (tokens l.line); fits : l.count + length l.rest ≤ length l.line }

abbrev pub decreases-loop-after : goal.decreases-loop-after
decreases-loop-after l = length l.rest
