use Rattle.std.proofs.Common.{refl, ap, ◌∙◌}
use Rattle.span_ledger.specs.Seats.{part}
use Rattle.steal_pool.proofs.Entering.{counted_works, counts_none}
use Rattle.steal_pool.proofs.Taking.{taken_gets, taken_works, taken_ways}
use Rattle.steal_pool.proofs.seat.PoolSeat.take.Goals as goal

pub returns-clause-taken : goal.returns-clause-taken
returns-clause-taken g c = rw (← c.self.view_is) (taken_gets c.take.result c.self.inside.worker c.take.new.self (part c.self.inside.entries)
    (ap (λ s. s.worker.hand) c.self.view_is ∙ c.requires.empty) c.take.ensures.taken)

pub returns-clause-works : goal.returns-clause-works
returns-clause-works g c = rw (← c.self.view_is) (counted_works g.N.Naming.rules 0 c.self.inside.worker (part c.self.inside.entries) c.self.inside.rounds c.take.new.self (part c.self.inside.entries) c.self.inside.rounds (taken_works g.N.Naming.rules c.take.result c.self.inside.worker c.take.new.self (part c.self.inside.entries)
    (ap (λ s. s.worker.hand) c.self.view_is ∙ c.requires.empty) c.take.ensures.taken) (counts_none _))

pub returns-clause-same : goal.returns-clause-same
returns-clause-same g c = rw (← c.self.view_is) (record { ways = taken_ways c.take.result c.self.inside.worker c.take.new.self c.take.ensures.taken; table = refl; terms = refl; number = refl; room = refl })

pub returns-clause-order : goal.returns-clause-order
returns-clause-order g c = rw (← c.self.view_is) c.take.ensures.taken
