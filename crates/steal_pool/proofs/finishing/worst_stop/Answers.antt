use Rattle.std.proofs.Common.{refl, ap, ◌∙◌, arith}
use Rattle.std.proofs.lemmas.List.{take_all}
use Rattle.steal_pool.specs.Closing.{worst_stop}
use Rattle.steal_pool.proofs.Stopping.{worst_more}
use Rattle.steal_pool.proofs.finishing.worst_stop.Goals as goal

pub loop-seat-init : goal.loop-seat-init
loop-seat-init g c = refl

pub loop-seat-preserved : goal.loop-seat-preserved
loop-seat-preserved g c = worst_more c.args.seats.now c.loop-seat.seat-index _ _ _ _ (omega arith) c.seat-item.is c.loop-seat.invariant c.stop_reason.ensures c.worse_stop-worst.ensures

pub returns : goal.returns
returns g c = c.loop-seat.invariant ∙ ap worst_stop (take_all c.loop-seat.seat-index c.args.seats.now (omega arith))
