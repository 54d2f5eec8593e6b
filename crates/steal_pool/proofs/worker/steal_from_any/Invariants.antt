use Rattle.std.proofs.Common.{◌≡◌, ◌+◌, ◌≤◌}
use Rattle.steal_pool.proofs.worker.steal_from_any.Given as goal

abbrev pub invariant-loop-stealer : goal.invariant-loop-stealer
invariant-loop-stealer g l = record {
  same : l.stealers ≡ l.initial.stealers;
  fewer : l.attempts.made + l.attempts.left ≤ l.initial.attempts.made + l.initial.attempts.left;
}
