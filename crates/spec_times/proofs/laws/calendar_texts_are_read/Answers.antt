use Rattle.spec_times.proofs.Texts.{time_of_written}
use Rattle.spec_times.proofs.laws.calendar_texts_are_read.Goals as goal

pub returns : goal.returns
returns c = time_of_written
