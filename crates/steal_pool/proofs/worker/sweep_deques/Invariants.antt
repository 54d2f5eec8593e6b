use Rattle.std.proofs.Common.{◌≡◌, ◌+◌, ◌≤◌}
use Rattle.steal_pool.proofs.worker.sweep_deques.Given as goal

abbrev pub invariant-loop : goal.invariant-loop
invariant-loop g l = record {
  same : l.stealers ≡ l.initial.stealers;
  fewer : l.attempts.made + l.attempts.left ≤ l.initial.attempts.made + l.initial.attempts.left;
}
