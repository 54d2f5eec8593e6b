use Rattle.std.proofs.Common.{refl, arith}
use Rattle.std.proofs.lemmas.Int.{ints}
use Rattle.spec_trees.specs.Order.{inserted, in_order}
use Rattle.pool_tests.proofs.books.a_book_out_of_order.Goals as goal

pub windows-requires : goal.windows-requires
unfolding in_order inserted
windows-requires g c = record { cover = rw (c.node_of_times.ensures, c.in_ok-from_array.ensures.items, c.entry_of_seat_0.ensures, c.entry_of_seat_0-2.ensures, c.entry_of_seat_0-3.ensures, c.entry_of_seat_0-4.ensures) (refl, omega (arith, ints), (refl, omega (arith, ints), (refl, omega (arith, ints), (refl, omega (arith, ints), refl)))) }
