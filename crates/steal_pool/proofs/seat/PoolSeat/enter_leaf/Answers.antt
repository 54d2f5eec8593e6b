use Rattle.std.proofs.Common.{refl, ap, ◌∙◌}
use Rattle.spec_trees.proofs.Leaves.{leaves_settled}
use Rattle.span_ledger.specs.Seats.{part}
use Rattle.steal_pool.specs.Seats.{Seat}
use Rattle.steal_pool.proofs.Entering.{counted_works, counts_none, full_of, if_full, kept_number, leaf_enters, leaf_works, same_works, stopped_full, stopped_same, went_more}
use Rattle.steal_pool.proofs.Within.{named_sound}
use Rattle.steal_pool.proofs.seat.PoolSeat.enter_leaf.Goals as goal

pub returns-in-Some-clause-works : goal.returns-in-Some-clause-works
returns-in-Some-clause-works g c = rw (← c.self.view_is) (counted_works g.N.Naming.rules 0 c.self.inside.worker (part c.self.inside.entries) c.self.inside.rounds c.self.inside.worker (part c.enter-entry.new.seat) c.self.inside.rounds (same_works g.N.Naming.rules c.self.inside.worker (part c.self.inside.entries) (part c.enter-entry.new.seat)
    (stopped_same _ _ _ _ _ c.enter-entry.ensures.entering c.in-Some.stop c.in-Some.ensures)) (counts_none _))

pub returns-in-Some-clause-same : goal.returns-in-Some-clause-same
returns-in-Some-clause-same g c = rw (← c.self.view_is) (record { ways = refl; table = refl; terms = refl; number = kept_number _ _ _ _ _ c.enter-entry.ensures.entering; room = refl })

pub returns-in-Some-clause-full : goal.returns-in-Some-clause-full
returns-in-Some-clause-full g c =
    if_full c.in-Some.stop _ _ (stopped_full _ _ _ _ _ c.enter-entry.ensures.entering c.in-Some.stop c.in-Some.ensures) (λ l seen. full_of g.N.Naming.rules _ c.args.leaf l
    (ap (λ (s : Seat). s.worker.hand) c.self.view_is ∙ c.requires.hand) c.requires.leaf.marked
    (leaves_settled g.N.Naming.rules (named_sound _ _ _ c.self.invariant.0 c.self.invariant.1 c.rules_are_sound.ensures) c.args.leaf.node c.requires.leaf.valid c.args.leaf.mark c.requires.leaf.marked) seen)

pub returns-in-None-clause-entered : goal.returns-in-None-clause-entered
returns-in-None-clause-entered g c = rw (← c.self.view_is) (leaf_enters g.N.Naming.rules c.self.inside.worker c.clear_hand.new.self (part c.self.inside.entries) (part c.enter-entry.new.seat) c.args.leaf
    c.requires.leaf (ap (λ s. s.worker.hand) c.self.view_is ∙ c.requires.hand) c.clear_hand.ensures
    (went_more _ _ _ _ _ c.enter-entry.ensures.entering c.in-None.ensures))

pub returns-in-None-clause-works : goal.returns-in-None-clause-works
returns-in-None-clause-works g c = rw (← c.self.view_is) (counted_works g.N.Naming.rules 1 c.self.inside.worker (part c.self.inside.entries) c.self.inside.rounds c.clear_hand.new.self (part c.enter-entry.new.seat) c.count_round-self-inside.result (leaf_works g.N.Naming.rules c.self.inside.worker c.clear_hand.new.self (part c.self.inside.entries) (part c.enter-entry.new.seat) c.args.leaf
    (named_sound _ _ _ c.self.invariant.0 c.self.invariant.1 c.rules_are_sound.ensures) c.requires.leaf (ap (λ s. s.worker.hand) c.self.view_is ∙ c.requires.hand) c.clear_hand.ensures
    (went_more _ _ _ _ _ c.enter-entry.ensures.entering c.in-None.ensures)) c.count_round-self-inside.ensures)
