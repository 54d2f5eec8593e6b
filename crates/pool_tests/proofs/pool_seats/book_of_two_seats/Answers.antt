use Rattle.std.proofs.Common.{◌∙◌, pos}
use Rattle.pool_tests.specs.Judges.{span}
use Rattle.steal_pool.specs.Seats.{SameSeat}
use Rattle.steal_pool.proofs.Listing.{zip_length}
use Rattle.steal_pool.proofs.Returning.{begin_free, come_back, same_seats}
use Rattle.pool_tests.proofs.Seats.{all_ours, free_last, same_all, same_last}
use Rattle.pool_tests.proofs.pool_seats.book_of_two_seats.Goals as goal

pub take_from_other-taken-requires : goal.take_from_other-taken-requires
take_from_other-taken-requires g c =
    let all = free_last c.in-Ok.seats.items c.pop.new.self.items c.in-Some.second (begin_free c.args.ledger c.root_node-root.result c.in-Ok.seats.items c.in-Ok.ensures.begin) c.in-Some.ensures.items in
    record { named = (span (pos 1339000) (pos 1339400), c.requires.pool.named); free = ((free_last c.pop.new.self.items c.pop-2.new.self.items c.in-Some-pop.first all.0 c.in-Some-pop.ensures.items).1, all.1) }

pub close-requires : goal.close-requires
close-requires g c =
    let first = same_last c.pop.new.self.items c.push.new.self.items c.pop-2.new.self.items c.pop-2.new.self.items c.in-Some-pop.first c.take_from_other-taken.new.first
    (same_all c.pop-2.new.self.items) c.take_from_other-taken.ensures.first.0 c.in-Some-pop.ensures.items c.in-Ok-push.ensures.items in
    let same = same_last c.in-Ok.seats.items c.push-2.new.self.items c.pop.new.self.items c.push.new.self.items c.in-Some.second c.take_from_other-taken.new.second
    first c.take_from_other-taken.ensures.second.0 c.in-Some.ensures.items c.in-Ok-push-2.ensures.items in
    all_ours c.args.ledger c.in-Ok-finish.entries.items (come_back c.args.ledger c.push-2.new.self.items
    (same_seats c.args.ledger c.root_node-root.result c.in-Ok.seats.items c.push-2.new.self.items c.in-Ok.ensures.begin same)
    (zip_length SameSeat c.in-Ok.seats.items c.push-2.new.self.items same ∙ c.in-Ok.ensures.count ∙ c.requires.pool.all)
    c.in-Ok-finish.entries.items c.in-Ok-finish.ensures.back)
