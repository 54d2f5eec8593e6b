use Rattle.spec_steps.proofs.Parts.{column_seen, seen_readable}
use Rattle.spec_steps.proofs.laws.listed_columns_are_read.Goals as goal

pub returns : goal.returns
returns c = record {
  seen = column_seen;
  readable = seen_readable;
}
