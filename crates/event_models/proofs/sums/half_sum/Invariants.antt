use Rattle.std.proofs.Common.{◌≡◌, ◌*◌, ◌^◌, length}
use Rattle.event_models.specs.Sums.{AreNumbersOfSum, AreNumbersWithin, half}
use Rattle.event_models.proofs.sums.half_sum.Given as goal

abbrev pub invariant-loop-i : goal.invariant-loop-i
invariant-loop-i l = record {
  count : length l.sums ≡ half;
  numbers : AreNumbersOfSum l.pairs l.rows l.from_term l.i l.sums;
  small : AreNumbersWithin half (l.i * 2 ^ 120) l.sums;
}
