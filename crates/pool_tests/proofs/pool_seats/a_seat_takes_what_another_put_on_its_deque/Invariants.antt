use Rattle.std.proofs.Common.{pos}
use Rattle.steal_pool.specs.Seats.{rules_within}
use Rattle.pool_tests.specs.Judges.{long_crossing, span}
use Rattle.pool_tests.proofs.pool_seats.a_seat_takes_what_another_put_on_its_deque.Given as goal

abbrev pub ghosts-book_of_two_seats : goal.ghosts-book_of_two_seats
ghosts-book_of_two_seats g a = record { rules = rules_within long_crossing (span (pos 1339000) (pos 1339400)) }
