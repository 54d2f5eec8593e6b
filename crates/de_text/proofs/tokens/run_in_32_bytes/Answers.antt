use Rattle.std.proofs.Common.{arith}
use Rattle.de_text.proofs.TokenRuns.{all_pass, some_pass, few_pass}
use Rattle.de_text.proofs.tokens.run_in_32_bytes.Goals as goal

pub returns-then-stops-eq0-clause-before : goal.returns-then-stops-eq0-clause-before
returns-then-stops-eq0-clause-before c = all_pass 32 (omega arith) c.args.text.now c.args.at c.requires c.if-stops-eq0.true

pub returns-else-stops-eq0 : goal.returns-else-stops-eq0
returns-else-stops-eq0 c = record { within = few_pass 32 (omega arith) c.args.text.now c.args.at c.requires c.if-stops-eq0.false; before = some_pass 32 (omega arith) c.args.text.now c.args.at c.requires c.if-stops-eq0.false }
