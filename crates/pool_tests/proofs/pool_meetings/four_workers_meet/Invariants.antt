use Rattle.std.proofs.Common.{pos}
use Rattle.steal_pool.specs.Seats.{rules_within}
use Rattle.pool_tests.specs.Judges.{span, stairs}
use Rattle.pool_tests.proofs.pool_meetings.four_workers_meet.Given as goal

abbrev pub ghosts-four_seats_meet : goal.ghosts-four_seats_meet
ghosts-four_seats_meet g a = record { rules = rules_within stairs (span (pos 0) (pos 100)) }
