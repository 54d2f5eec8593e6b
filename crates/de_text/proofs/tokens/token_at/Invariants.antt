use Rattle.std.proofs.Common.{◌≡◌, drop}
use Rattle.spec_text.specs.Lines.{tokens}
use Rattle.de_text.proofs.tokens.token_at.Given as goal

abbrev pub invariant-loop-passed : goal.invariant-loop-passed
invariant-loop-passed l = drop l.passed (tokens l.line) ≡ tokens l.rest
