use Rattle.std.proofs.Common.{length, sym, ap, subst, arith}
use Rattle.std.specs.List.{AllZip}
use Rattle.steal_pool.specs.Closing.{Leaves}
use Rattle.steal_pool.proofs.Listing.{length_push, zip_push, whole_step, whole_end}
use Rattle.steal_pool.proofs.finishing.end_each_seat.Goals as goal

pub loop-seat-init : goal.loop-seat-init
loop-seat-init g c = record {
  left = rw c.requires.empty tt;
  whole = sym c.into_iter-seat-iterator.ensures.into_iter_gives.0;
  room = λ few. omega (arith, few, ap length c.into_iter-seat-iterator.ensures.into_iter_gives.0, c.args.entries.ok.0, ap length c.requires.empty);
}

pub loop-seat-preserved : goal.loop-seat-preserved
loop-seat-preserved g c = record {
  left = rw c.in_ok-add_item.ensures.added (zip_push Leaves c.loop-seat.yielded c.loop-seat.entries.items c.in-Some.seat c.end_seat.result c.loop-seat.invariant.left c.end_seat.ensures);
  whole = whole_step c.args.seats.items c.loop-seat.yielded c.loop-seat.seat-iterator.rest.items c.next.new.self.rest.items c.in-Some.seat c.loop-seat.invariant.whole c.in-Some.ensures.steps.0;
  room = λ few. omega (arith, c.loop-seat.invariant.room few, ap length c.in-Some.ensures.steps.0, c.add_item.ensures.capacity, c.add_item.new.items.ok.0, c.loop-seat.entries.ok.0, ap length c.in_ok-add_item.ensures.added, length_push c.loop-seat.entries.items c.end_seat.result);
}

pub returns-clause-left : goal.returns-clause-left
returns-clause-left g c = subst (λ ss. AllZip Leaves ss c.loop-seat.entries.items)
    (sym (whole_end c.args.seats.items c.loop-seat.yielded c.loop-seat.seat-iterator.rest.items c.loop-seat.invariant.whole (omega (arith, c.loop-seat.seat-iterator.rest.ok.0, c.in-None.ensures.steps.0))))
    c.loop-seat.invariant.left
