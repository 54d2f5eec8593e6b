use Rattle.std.proofs.Common.{pos, neg_ℤ}
use Rattle.steal_pool.specs.Seats.{rules_within}
use Rattle.pool_tests.specs.Judges.{long_crossing, span}
use Rattle.pool_tests.proofs.pool_meetings.workers_leave_nothing_for_the_end.Given as goal

abbrev pub ghosts-seats_leave_nothing_to_finish : goal.ghosts-seats_leave_nothing_to_finish
ghosts-seats_leave_nothing_to_finish g a = record { rules = rules_within long_crossing (span (neg_ℤ (pos 43200)) (pos 2721600)) }
