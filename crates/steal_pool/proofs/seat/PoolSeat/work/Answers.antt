use Rattle.std.proofs.Common.{refl, sym, ap, ◌∙◌}
use Rattle.steal_pool.specs.Seats.{Seat}
use Rattle.steal_pool.proofs.Entering.{same_more, same_refused, seat_idle, seat_more, seat_refused}
use Rattle.steal_pool.proofs.Stopping.{left_done, left_refused, stopped_by, too_many_is_full}
use Rattle.steal_pool.proofs.seat.PoolSeat.work.Goals as goal

pub loop-init : goal.loop-init
loop-init g c = record { works = seat_idle g.N.Naming.rules c.args.self.now; same = record { ways = refl; table = refl; terms = refl; number = refl; room = refl }; free = c.requires.free }

pub loop-preserved : goal.loop-preserved
loop-preserved g c = record {
  works = seat_more g.N.Naming.rules c.args.self.now c.next_node.new.self c.work_on_node.new.self (seat_more g.N.Naming.rules c.args.self.now c.loop.self c.next_node.new.self c.loop.invariant.works c.next_node.ensures.works) c.work_on_node.ensures.works;
  same = same_more c.args.self.now c.next_node.new.self c.work_on_node.new.self (same_more c.args.self.now c.loop.self c.next_node.new.self c.loop.invariant.same c.next_node.ensures.same) c.work_on_node.ensures.same;
  free = c.work_on_node.ensures.refusal ∙ c.next_node.ensures.refusal ∙ c.loop.invariant.free;
}

pub returns-in-None-next_node-clause-works : goal.returns-in-None-next_node-clause-works
returns-in-None-next_node-clause-works g c = seat_more g.N.Naming.rules c.args.self.now c.loop.self c.next_node.new.self c.loop.invariant.works c.next_node.ensures.works

pub returns-in-None-next_node-clause-same : goal.returns-in-None-next_node-clause-same
returns-in-None-next_node-clause-same g c = same_more c.args.self.now c.loop.self c.next_node.new.self c.loop.invariant.same c.next_node.ensures.same

pub returns-in-None-next_node-clause-hand : goal.returns-in-None-next_node-clause-hand
returns-in-None-next_node-clause-hand g c = sym c.in-None-next_node.ensures.hand

pub returns-in-None-next_node-clause-kept : goal.returns-in-None-next_node-clause-kept
returns-in-None-next_node-clause-kept g c = c.in-None-next_node.ensures.kept

pub returns-in-None-next_node-clause-used_up : goal.returns-in-None-next_node-clause-used_up
returns-in-None-next_node-clause-used_up g c = c.in-None-next_node.ensures.used_up

pub returns-in-None-next_node-clause-free : goal.returns-in-None-next_node-clause-free
returns-in-None-next_node-clause-free g c = c.next_node.ensures.refusal ∙ c.loop.invariant.free

pub returns-in-None-next_node-clause-left : goal.returns-in-None-next_node-clause-left
returns-in-None-next_node-clause-left g c = left_done g.N.Naming.rules c.next_node.new.self (c.next_node.ensures.refusal ∙ c.loop.invariant.free) (sym c.in-None-next_node.ensures.hand) c.in-None-next_node.ensures.kept

pub returns-in-Err-clause-works : goal.returns-in-Err-clause-works
returns-in-Err-clause-works g c =
    seat_refused g.N.Naming.rules c.args.self.now c.next_node.new.self c.work_on_node.new.self c.note_stop.new.self _
    (seat_more g.N.Naming.rules c.args.self.now c.loop.self c.next_node.new.self c.loop.invariant.works c.next_node.ensures.works) c.work_on_node.ensures.works c.note_stop.ensures

pub returns-in-Err-clause-same : goal.returns-in-Err-clause-same
returns-in-Err-clause-same g c =
    same_refused c.args.self.now c.work_on_node.new.self c.note_stop.new.self _
    (same_more c.args.self.now c.next_node.new.self c.work_on_node.new.self (same_more c.args.self.now c.loop.self c.next_node.new.self c.loop.invariant.same c.next_node.ensures.same) c.work_on_node.ensures.same) c.note_stop.ensures

pub returns-in-Err-clause-refusal : goal.returns-in-Err-clause-refusal
returns-in-Err-clause-refusal g c = stopped_by g.N.Naming.rules c.work_on_node.new.self c.note_stop.new.self c.in-Err.stop c.note_stop.ensures c.in-Err.ensures.full c.error.result c.error.ensures

pub returns-in-Err-clause-holds : goal.returns-in-Err-clause-holds
returns-in-Err-clause-holds g c = (c.in-Some-next_node.node, ap (λ (s : Seat). s.worker.hand) c.note_stop.ensures ∙ c.in-Err.ensures.holds ∙ sym c.in-Some-next_node.ensures.hand)

pub returns-in-Err-clause-full : goal.returns-in-Err-clause-full
returns-in-Err-clause-full g c = too_many_is_full g.N.Naming.rules c.work_on_node.new.self c.note_stop.new.self c.in-Err.stop c.note_stop.ensures c.in-Err.ensures.full c.error.result c.error.ensures

pub returns-in-Err-clause-left : goal.returns-in-Err-clause-left
returns-in-Err-clause-left g c = left_refused g.N.Naming.rules c.work_on_node.new.self c.note_stop.new.self c.in-Err.stop c.note_stop.ensures c.in-Err.ensures.full
