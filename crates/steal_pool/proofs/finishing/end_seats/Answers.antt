use Rattle.std.proofs.Common.{List, length, sym, subst, ap, ◌∙◌, arith}
use Rattle.std.specs.List.{AllZip}
use Rattle.std.proofs.lemmas.List.{with_items_is}
use Rattle.steal_pool.specs.Pools.{HasRoom}
use Rattle.steal_pool.specs.Seats.{Seat}
use Rattle.steal_pool.specs.Closing.{IsRoomless, Leaves}
use Rattle.steal_pool.proofs.Listing.{zip_length}
use Rattle.steal_pool.proofs.Outcomes.{if_ok}
use Rattle.steal_pool.proofs.Pooling.{leave_as}
use Rattle.steal_pool.proofs.finishing.end_seats.Goals as goal

pub end_each_seat-requires-clause-empty : goal.end_each_seat-requires-clause-empty
end_each_seat-requires-clause-empty g c κs within = c.take_first_room-entries.ensures.empty

pub returns-clause-left : goal.returns-clause-left
returns-clause-left g c =
    let ss = c.args.seats.items in
    let us = c.take_first_room-entries.new.seats in
    let same : AllZip IsRoomless ss us = subst (λ (xs : List Seat). AllZip IsRoomless xs us) c.as_mut_slice.ensures.value c.take_first_room-entries.ensures.seats in
    let items = with_items_is c.args.seats us (zip_length IsRoomless ss us same ∙ sym c.args.seats.ok.0) in
    if_ok c.end_each_seat.result _ _ c.end_each_seat.ensures.left (λ v left. leave_as ss us v.items same (subst (λ (xs : List Seat). AllZip Leaves xs v.items) items left))

pub returns-clause-room : goal.returns-clause-room
returns-clause-room g c = λ room.
    let ss = c.args.seats.items in
    let us = c.take_first_room-entries.new.seats in
    let same : AllZip IsRoomless ss us = subst (λ (xs : List Seat). AllZip IsRoomless xs us) c.as_mut_slice.ensures.value c.take_first_room-entries.ensures.seats in
    let items = with_items_is c.args.seats us (zip_length IsRoomless ss us same ∙ sym c.args.seats.ok.0) in
    c.end_each_seat.ensures.room (omega (arith, ap length items, zip_length IsRoomless ss us same, c.take_first_room-entries.ensures.room (subst HasRoom (sym c.as_mut_slice.ensures.value) room), ap length c.as_mut_slice.ensures.value))
