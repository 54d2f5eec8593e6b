use Rattle.std.proofs.Common.{ap, ◌++◌}
use Rattle.std.specs.Prelude.{codes}
use Rattle.spec_times.specs.Ticks.{tick_text}
use Rattle.spec_times.proofs.Worked.{before_j2000, j2000}
use Rattle.spec_times.proofs.examples.milliseconds_have_texts.Goals as goal

pub returns-clause-after_j2000 : goal.returns-clause-after_j2000
unfolding tick_text
returns-clause-after_j2000 c = ap (λ text. text ++ codes ".001") j2000

pub returns-clause-before_j2000 : goal.returns-clause-before_j2000
unfolding tick_text
returns-clause-before_j2000 c = ap (λ text. text ++ codes ".999") before_j2000

pub returns-clause-no_fraction : goal.returns-clause-no_fraction
unfolding tick_text
returns-clause-no_fraction c = ap (λ text. text ++ codes ".000") j2000
