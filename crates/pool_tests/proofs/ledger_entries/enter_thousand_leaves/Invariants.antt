use Rattle.span_ledger.specs.Seats.{IsSeatOf}
use Rattle.pool_tests.proofs.ledger_entries.enter_thousand_leaves.Given as goal

abbrev pub invariant-loop-k : goal.invariant-loop-k
invariant-loop-k g l = IsSeatOf l.ledger l.seat
