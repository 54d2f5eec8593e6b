use Rattle.std.proofs.Common.{length, inl, inr, sym, ap, ◌∙◌}
use Rattle.span_ledger.specs.Seats.{part, terms}
use Rattle.steal_pool.specs.Rounds.{rounds_of_push}
use Rattle.steal_pool.specs.Workers.{IsSplit}
use Rattle.steal_pool.specs.Seats.{account_of}
use Rattle.steal_pool.proofs.Accounts.{keeps_right, like_itself, puts_right}
use Rattle.steal_pool.proofs.Entering.{counted_works, kept_when_full, push_works}
use Rattle.steal_pool.proofs.Standing.{same_some}
use Rattle.steal_pool.proofs.Within.{named_parts, named_sound}
use Rattle.steal_pool.proofs.seat.PoolSeat.split_node.Goals.{in-OnDeque, in-Kept, in-Memory}
use Rattle.steal_pool.proofs.seat.PoolSeat.split_node.Goals as goal

pub push-pushed-requires-clause-sound : goal.push-pushed-requires-clause-sound
push-pushed-requires-clause-sound g c = named_sound _ _ _ c.self.invariant.0 c.self.invariant.1 c.rules_are_sound.ensures

pub returns-clause-works : goal.returns-clause-works
returns-clause-works g c = rw (← c.self.view_is) (
    let hand = ap (λ s. s.worker.hand) c.self.view_is ∙ c.requires.hand in
    counted_works g.N.Naming.rules (rounds_of_push c.push-pushed.result) c.self.inside.worker (part c.self.inside.entries) c.self.inside.rounds c.push-pushed.new.self (part c.self.inside.entries) c.count-self-inside.result (push_works g.N.Naming.rules c.self.inside.worker c.push-pushed.new.self (part c.self.inside.entries) c.cut.result.0 c.cut.result.1
    (named_sound _ _ _ c.self.invariant.0 c.self.invariant.1 c.rules_are_sound.ensures)
    (λ n e. same_some g.N.Naming.rules c.args.node n (sym hand ∙ e) c.requires.valid)
    (c.args.node, hand, c.requires.split, named_parts g.N.Naming.rules (g.J.Judge.rules c.self.inside.judge.now) (terms c.self.inside.ledger.now).root c.self.invariant.0 c.self.invariant.1 c.args.node c.cut.result c.cut.ensures.parts)
    c.push-pushed.result c.push-pushed.ensures.deque c.push-pushed.ensures.kept c.push-pushed.ensures.memory) c.count-self-inside.ensures.counts)

pub returns-clause-split : goal.returns-clause-split
returns-clause-split g c =
    let t = g.N.Naming.rules in
    let w = c.self.inside.worker in
    let v = c.push-pushed.new.self in
    let p = part c.self.inside.entries in
    let split : IsSplit t w c.cut.result.0 c.cut.result.1 = (
      c.args.node,
      ap (λ s. s.worker.hand) c.self.view_is ∙ c.requires.hand,
      c.requires.split,
      named_parts t (g.J.Judge.rules c.self.inside.judge.now) (terms c.self.inside.ledger.now).root c.self.invariant.0 c.self.invariant.1 c.args.node c.cut.result c.cut.ensures.parts,
    ) in
    elim c.match-pushed.branch [
      | in-OnDeque b ↦ rw b.result-is (rw (← c.self.view_is) (inl (
        c.cut.result.1,
        (account_of v p, puts_right t w v p c.cut.result.0 c.cut.result.1 split (c.push-pushed.ensures.deque b.in-OnDeque.is), like_itself (account_of v p)),
      )))
      | in-Kept b ↦ rw b.result-is (rw (← c.self.view_is) (inr (
        kept_when_full (length w.own.view.put) c.push-pushed.result c.push-pushed.ensures.first b.in-Kept.is,
        (account_of v p, keeps_right t w v p c.cut.result.0 c.cut.result.1 split (c.push-pushed.ensures.kept b.in-Kept.is), like_itself (account_of v p)),
      )))
      | in-Memory b ↦ rw b.result-is tt
    ]
