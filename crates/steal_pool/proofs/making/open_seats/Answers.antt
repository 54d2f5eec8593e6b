use Rattle.std.proofs.Common.{sym, subst, arith}
use Rattle.std.specs.List.{AllZip}
use Rattle.span_ledger.specs.Seats.{IsSeatOf}
use Rattle.steal_pool.specs.Stealers.{Opens}
use Rattle.steal_pool.proofs.Listing.{all_at_end, zip_push, whole_step, whole_end}
use Rattle.steal_pool.proofs.Beginning.{opens_by}
use Rattle.steal_pool.proofs.making.open_seats.Goals as goal

pub loop-entry-init : goal.loop-entry-init
loop-entry-init g c = record { opened = rw c.new-seats.ensures.items tt; whole = sym c.into_iter-entry-iterator.ensures.into_iter_gives.0 }

pub new-requires-clause-ours : goal.new-requires-clause-ours
new-requires-clause-ours g c κs within = all_at_end (IsSeatOf c.args.ledger.now) c.args.entries.items c.loop-entry.yielded c.loop-entry.entry-iterator.rest.items c.next.new.self.rest.items c.in-Some.entry c.requires.ours c.loop-entry.invariant.whole c.in-Some.ensures.steps.0

pub loop-entry-preserved : goal.loop-entry-preserved
loop-entry-preserved g c = record {
  opened = rw c.in_ok-add_item.ensures.added (zip_push (Opens c.args.ledger.now c.args.root) c.loop-entry.yielded c.loop-entry.seats.items c.in-Some.entry c.in_ok-seat.seat c.loop-entry.invariant.opened
      (opens_by c.args.ledger.now c.args.root c.in-Some.entry c.in_ok-seat.seat c.first_node-hand.result c.number.result c.number.ensures.number c.first_node-hand.ensures c.in_ok-seat.ensures.made));
  whole = whole_step c.args.entries.items c.loop-entry.yielded c.loop-entry.entry-iterator.rest.items c.next.new.self.rest.items c.in-Some.entry c.loop-entry.invariant.whole c.in-Some.ensures.steps.0;
}

pub returns : goal.returns
returns g c = subst (λ es. AllZip (Opens c.args.ledger.now c.args.root) es c.loop-entry.seats.items)
    (sym (whole_end c.args.entries.items c.loop-entry.yielded c.loop-entry.entry-iterator.rest.items c.loop-entry.invariant.whole (omega (arith, c.loop-entry.entry-iterator.rest.ok.0, c.in-None.ensures.steps.0))))
    c.loop-entry.invariant.opened
