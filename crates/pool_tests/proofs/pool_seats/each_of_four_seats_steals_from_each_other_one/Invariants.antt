use Rattle.std.proofs.Common.{pos, neg_ℤ}
use Rattle.steal_pool.specs.Seats.{rules_within}
use Rattle.pool_tests.specs.Judges.{long_crossing, span}
use Rattle.pool_tests.proofs.pool_seats.each_of_four_seats_steals_from_each_other_one.Given as goal

abbrev pub ghosts-make_and_hand_over_between_all_pairs : goal.ghosts-make_and_hand_over_between_all_pairs
ghosts-make_and_hand_over_between_all_pairs g a = record { rules = rules_within long_crossing (span (neg_ℤ (pos 43200)) (pos 1339200)) }
