use Rattle.std.proofs.Common.{◌≡◌, ◌+◌, length, drop}
use Rattle.spec_text.specs.Splitting.{digits_at}
use Rattle.de_text.proofs.digits.digit_count.Given as goal

abbrev pub invariant-loop-i : goal.invariant-loop-i
invariant-loop-i l = record {
  count : length (digits_at l.text).0 ≡ l.i + length (digits_at (drop l.i l.text)).0;
  rest : (digits_at l.text).1 ≡ (digits_at (drop l.i l.text)).1;
}
