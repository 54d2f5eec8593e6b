use Rattle.std.proofs.Common.{◌≡◌, ◌+◌, ◌≤◌}
use Rattle.steal_pool.proofs.stealer.Stealer.steal.Given as goal

abbrev pub invariant-loop-attempts : goal.invariant-loop-attempts
invariant-loop-attempts g l = record {
  same : l.self ≡ l.initial.self;
  fewer : l.attempts.made + l.attempts.left ≤ l.initial.attempts.made + l.initial.attempts.left;
}

abbrev pub decreases-loop-attempts : goal.decreases-loop-attempts
decreases-loop-attempts g l = l.attempts.left
