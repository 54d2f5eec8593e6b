use Rattle.de_header.specs.Reader.{says}
use Rattle.de_header.proofs.reader.header_at_end.Goals as goal

pub returns-in-Whole : goal.returns-in-Whole
unfolding says
returns-in-Whole c = rw c.in-Whole.is (record { end = c.header_of_columns.ensures c.args.line; memory = λ _. tt })
