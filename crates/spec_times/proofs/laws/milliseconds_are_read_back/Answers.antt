use Rattle.spec_times.proofs.Ticks.{thousands_are_read}
use Rattle.spec_times.proofs.laws.milliseconds_are_read_back.Goals as goal

pub returns : goal.returns
returns c = thousands_are_read
