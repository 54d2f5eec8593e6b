use Rattle.std.proofs.Common.{◌≡◌, ◌≤◌, ◌^◌, min, drop}
use Rattle.spec_text.specs.Decimals.{value_after}
use Rattle.de_text.proofs.digits.capped_number.Given as goal

abbrev pub invariant-loop-b : goal.invariant-loop-b
invariant-loop-b l = record {
  cap : l.n ≤ 10 ^ 18;
  goes_on : min (value_after l.n (drop l.b-index l.digits)) (10 ^ 18) ≡ min (value_after l.start l.digits) (10 ^ 18);
}
