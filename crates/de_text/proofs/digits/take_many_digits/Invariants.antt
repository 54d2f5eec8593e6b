use Rattle.std.proofs.Common.{◌≡◌, ◌+◌, ◌^◌, ◌≤◌, length}
use Rattle.spec_text.specs.Decimals.{value_after}
use Rattle.spec_text.specs.Splitting.{digits_at}
use Rattle.de_text.proofs.digits.take_many_digits.Given as goal

abbrev pub invariant-loop-longer : goal.invariant-loop-longer
invariant-loop-longer l = record {
  cap : l.number ≤ 10 ^ 18;
  number : value_after l.number (digits_at l.rest).0 ≡ value_after l.start (digits_at l.text).0;
  count : length (digits_at l.text).0 ≡ l.count + length (digits_at l.rest).0;
  rest : (digits_at l.text).1 ≡ (digits_at l.rest).1;
  within : l.count + length l.rest ≡ length l.text;
}

abbrev pub decreases-loop-longer : goal.decreases-loop-longer
decreases-loop-longer l = length l.rest
