use Rattle.std.proofs.Common.{◌+◌, subst, sym}
use Rattle.steal_pool.specs.Stealers.{Linking}
use Rattle.steal_pool.proofs.making.link_all_seats.Goals as goal

pub link_seat-requires-clause-linking : goal.link_seat-requires-clause-linking
link_seat-requires-clause-linking g c κs within = subst (λ n. Linking c.args.ledger.now c.args.root n c.loop-i.i 0 c.loop-i.seats) (sym c.loop-i.invariant.linking.count) c.loop-i.invariant.linking

pub loop-i-preserved : goal.loop-i-preserved
loop-i-preserved g c = record { linking = subst (λ n. Linking c.args.ledger.now c.args.root n (c.loop-i.i + 1) 0 c.link_seat.new.seats) c.loop-i.invariant.linking.count c.in_ok-link_seat.ensures.linking }
