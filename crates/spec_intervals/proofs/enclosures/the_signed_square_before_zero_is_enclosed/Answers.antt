use Rattle.spec_intervals.proofs.ExampleRows.{square_row, holds-first, holds-last, holds-first_change, holds-second_change}
use Rattle.spec_intervals.proofs.enclosures.the_signed_square_before_zero_is_enclosed.Goals as goal

pub returns : goal.returns
returns c = record {
  enclosed = square_row;
  first = holds-first;
  last = holds-last;
  first_change = holds-first_change;
  second_change = holds-second_change;
}
