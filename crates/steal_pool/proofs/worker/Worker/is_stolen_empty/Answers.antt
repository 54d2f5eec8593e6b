use Rattle.std.proofs.Common.{length, ap, ◌∙◌, arith}
use Rattle.steal_pool.specs.declared.view.DequeView.{DequeView}
use Rattle.steal_pool.specs.Rule.{end_of}
use Rattle.steal_pool.specs.Workers.{holder_of}
use Rattle.steal_pool.proofs.Standing.{empty_stands}
use Rattle.steal_pool.proofs.worker.Worker.is_stolen_empty.Goals as goal

pub len_as-requires : goal.len_as-requires
len_as-requires g c = λ items views kept at. tt

pub invariant_of-self : goal.invariant_of-self
invariant_of-self g c =
    let view = c.len_as.ensures.same.2 in (
      empty_stands g.N.Naming.rules _ _ c.self.inside.pushed_in_a_row c.self.invariant.0 view (omega arith),
      ap (λ (v : DequeView). v.owner) view ∙ c.self.invariant.1,
      c.len_as.ensures.same.0.1 ∙ c.self.invariant.2,
      omega (arith, c.len_as.ensures.same.1, c.self.invariant.3, ap (λ (v : DequeView). length v.put) view),
      omega (arith, c.len_as.ensures.same.0.3, c.self.invariant.4),
    )

pub returns-clause-same : goal.returns-clause-same
returns-clause-same g c = rw (← c.self.view_is) (λ i. holder_of (end_of c.self.inside.number (c.len_as.ensures.same.0.0 i) (c.len_as.ensures.same.2 i)) c.self.inside.stealers.items c.self.inside.pushed_in_a_row c.self.inside.hand c.self.inside.kept.items)

pub returns-clause-filled : goal.returns-clause-filled
returns-clause-filled g c = rw (← c.self.view_is) (λ _. omega (arith, c.if-self-lt-ROOM.false))
