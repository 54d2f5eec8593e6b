use Rattle.std.proofs.Common.{pos}
use Rattle.steal_pool.specs.Seats.{rules_within}
use Rattle.pool_tests.specs.Judges.{span, stairs}
use Rattle.pool_tests.proofs.pool_seats.a_deque_takes_64_nodes_in_a_row.Given as goal

abbrev pub ghosts-book_of_one_seat : goal.ghosts-book_of_one_seat
ghosts-book_of_one_seat g a = record { rules = rules_within stairs (span (pos 0) (pos 100)) }
