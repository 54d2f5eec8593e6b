use Rattle.std.proofs.Common.{Some, length, ap, ◌∙◌, arith}
use Rattle.steal_pool.specs.declared.view.DequeView.{DequeView}
use Rattle.steal_pool.specs.Rule.{end_of}
use Rattle.steal_pool.specs.Workers.{holder_of}
use Rattle.steal_pool.proofs.Rule.{owner_takes, finds}
use Rattle.steal_pool.proofs.Standing.{empty_stands, own_stands}
use Rattle.steal_pool.proofs.worker.Worker.take_from_own_deque.Goals as goal

pub pop_as-requires-clause-fifo : goal.pop_as-requires-clause-fifo
pop_as-requires-clause-fifo g c = λ _. owner_takes _ _ _ c.self.invariant.1

pub pop_as-requires-clause-lifo : goal.pop_as-requires-clause-lifo
pop_as-requires-clause-lifo g c = λ h. absurd (omega (arith, h, c.self.invariant.2))

pub pop_as-requires-clause-empty : goal.pop_as-requires-clause-empty
pop_as-requires-clause-empty g c = finds _ _ _ c.self.invariant.1

pub invariant_of-self : goal.invariant_of-self
invariant_of-self g c =
    let took = c.in-Some.ensures.rule.0 in (
      own_stands g.N.Naming.rules _ _ c.in-Some.node c.self.invariant.0 took,
      ap (λ (v : DequeView). v.owner) took.0 ∙ c.self.invariant.1,
      c.pop_as.ensures.same.0.1 ∙ c.self.invariant.2,
      omega (arith, c.pop_as.ensures.same.1, c.self.invariant.3, ap (λ (v : DequeView). length v.put) took.0),
      omega (arith, c.pop_as.ensures.same.0.3, c.self.invariant.4),
    )

pub invariant_of-self-in-None : goal.invariant_of-self-in-None
invariant_of-self-in-None g c =
    let view = c.in-None.ensures.rule.0 in (
      empty_stands g.N.Naming.rules _ _ 0 c.self.invariant.0 view (omega arith),
      ap (λ (v : DequeView). v.owner) view ∙ c.self.invariant.1,
      c.pop_as.ensures.same.0.1 ∙ c.self.invariant.2,
      omega (arith, c.pop_as.ensures.same.1, c.self.invariant.3, ap (λ (v : DequeView). length v.put) view),
      omega (arith, c.pop_as.ensures.same.0.3, c.self.invariant.4),
    )

pub returns-in-Some : goal.returns-in-Some
returns-in-Some g c = record {
  taken = rw (← c.self.view_is) (
    c.in-Some.ensures.rule.1,
    (λ i. holder_of (end_of c.self.inside.number (c.pop_as.ensures.same.0.0 i) (c.in-Some.ensures.rule.0.0 i)) c.self.inside.stealers.items c.self.inside.pushed_in_a_row (Some c.in-Some.node) c.self.inside.kept.items),
  );
}

pub returns-in-None : goal.returns-in-None
returns-in-None g c = record {
  taken = rw (← c.self.view_is) (
    c.in-None.ensures.rule.1,
    (λ i. holder_of (end_of c.self.inside.number (c.pop_as.ensures.same.0.0 i) (c.in-None.ensures.rule.0 i)) c.self.inside.stealers.items 0 c.self.inside.hand c.self.inside.kept.items),
  );
}
