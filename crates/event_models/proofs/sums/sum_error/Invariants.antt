use Rattle.event_models.specs.Sums.{IsErrorOfSum}
use Rattle.event_models.proofs.sums.sum_error.Given as goal

abbrev pub invariant-loop-i : goal.invariant-loop-i
invariant-loop-i l = IsErrorOfSum l.pairs l.rows l.i l.error
