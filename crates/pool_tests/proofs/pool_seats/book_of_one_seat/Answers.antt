use Rattle.std.proofs.Common.{◌∙◌, pos}
use Rattle.pool_tests.specs.Judges.{span}
use Rattle.steal_pool.specs.Seats.{SameSeat}
use Rattle.steal_pool.proofs.Listing.{zip_length}
use Rattle.steal_pool.proofs.Returning.{begin_free, come_back, same_seats}
use Rattle.pool_tests.proofs.Seats.{all_ours, free_last, same_all, same_last}
use Rattle.pool_tests.proofs.pool_seats.book_of_one_seat.Goals as goal

pub fill_deque_and_work-pushed-requires : goal.fill_deque_and_work-pushed-requires
fill_deque_and_work-pushed-requires g c = record {
  named = (span (pos 0) (pos 100), c.requires.pool.named);
  free = (free_last c.in-Ok.seats.items c.pop.new.self.items c.in-Some.seat (begin_free c.args.ledger c.root_node-root.result c.in-Ok.seats.items c.in-Ok.ensures.begin) c.in-Some.ensures.items).1;
}

pub close-requires : goal.close-requires
close-requires g c =
    let same = same_last c.in-Ok.seats.items c.push.new.self.items c.pop.new.self.items c.pop.new.self.items c.in-Some.seat c.fill_deque_and_work-pushed.new.seat
    (same_all c.pop.new.self.items) c.fill_deque_and_work-pushed.ensures.same c.in-Some.ensures.items c.in-Ok-push.ensures.items in
    all_ours c.args.ledger c.in-Ok-finish.entries.items (come_back c.args.ledger c.push.new.self.items
    (same_seats c.args.ledger c.root_node-root.result c.in-Ok.seats.items c.push.new.self.items c.in-Ok.ensures.begin same)
    (zip_length SameSeat c.in-Ok.seats.items c.push.new.self.items same ∙ c.in-Ok.ensures.count ∙ c.requires.pool.all)
    c.in-Ok-finish.entries.items c.in-Ok-finish.ensures.back)
