use Rattle.std.proofs.Common.{◌+◌, Some, length, refl, sym, ap, ◌∙◌, subst, arith}
use Rattle.crossbeam_deque.specs.Handles.{worker_view}
use Rattle.steal_pool.specs.declared.view.DequeView.{DequeView}
use Rattle.steal_pool.specs.Rule.{end_of}
use Rattle.steal_pool.specs.Workers.{Holder, IsSplit, holder_of}
use Rattle.steal_pool.proofs.Listing.{length_push}
use Rattle.steal_pool.proofs.Rule.{pushes}
use Rattle.steal_pool.proofs.Standing.{cut_of_split, empty_stands, offered_stands}
use Rattle.steal_pool.proofs.worker.Worker.put_on_deque.Goals as goal

pub push_as-requires-clause-pushes : goal.push_as-requires-clause-pushes
push_as-requires-clause-pushes g c = pushes _ _ _ _ c.self.invariant.1 (cut_of_split g.N.Naming.rules _ c.args.left c.args.right c.self.invariant.0 c.requires.sound
    (subst (λ (w : Holder). IsSplit g.N.Naming.rules w c.args.left c.args.right) (sym c.self.view_is) c.requires.split)).1

pub returns-then-self-ge-ROOM-clause-put : goal.returns-then-self-ge-ROOM-clause-put
returns-then-self-ge-ROOM-clause-put g c = λ e. absurd cc

pub returns-then-self-ge-ROOM-clause-refused : goal.returns-then-self-ge-ROOM-clause-refused
returns-then-self-ge-ROOM-clause-refused g c = rw (← c.self.view_is) (λ _. (refl, omega (arith, c.self.invariant.0.pushed_in_a_row, c.if-self-ge-ROOM.true)))

pub invariant_of-self : goal.invariant_of-self
invariant_of-self g c =
    let view = c.in-Ok.ensures.rule.0 in (
      offered_stands g.N.Naming.rules _ _ c.args.left c.args.right c.self.invariant.0 c.requires.sound
          (subst (λ (w : Holder). IsSplit g.N.Naming.rules w c.args.left c.args.right) (sym c.self.view_is) c.requires.split)
          view,
      ap (λ (v : DequeView). v.owner) view ∙ c.self.invariant.1,
      c.push_as.ensures.same.1 ∙ c.self.invariant.2,
      omega (arith, c.in-Ok.ensures.rule.1, c.self.invariant.3, ap (λ (v : DequeView). length v.put) view, length_push (worker_view c.self.inside.deque).put c.args.right),
      omega (arith, c.push_as.ensures.same.3, c.self.invariant.4),
    )

pub invariant_of-self-in-Err : goal.invariant_of-self-in-Err
invariant_of-self-in-Err g c =
    let view = c.in-Err.ensures.rule.1 in (
      empty_stands g.N.Naming.rules _ _ c.self.inside.pushed_in_a_row c.self.invariant.0 view (omega arith),
      ap (λ (v : DequeView). v.owner) view ∙ c.self.invariant.1,
      c.push_as.ensures.same.1 ∙ c.self.invariant.2,
      omega (arith, c.in-Err.ensures.rule.2, c.self.invariant.3, ap (λ (v : DequeView). length v.put) view),
      omega (arith, c.push_as.ensures.same.3, c.self.invariant.4),
    )

pub returns-in-Ok-clause-put : goal.returns-in-Ok-clause-put
returns-in-Ok-clause-put g c = rw (← c.self.view_is) (λ _. (
  (λ i. holder_of (end_of c.self.inside.number (c.push_as.ensures.same.0 i) (c.in-Ok.ensures.rule.0 i)) c.self.inside.stealers.items (c.self.inside.pushed_in_a_row + 1) (Some c.args.left) c.self.inside.kept.items),
  omega (arith, c.if-self-ge-ROOM.false),
))

pub returns-in-Ok-clause-refused : goal.returns-in-Ok-clause-refused
returns-in-Ok-clause-refused g c = λ e. absurd cc

pub returns-in-Err-clause-put : goal.returns-in-Err-clause-put
returns-in-Err-clause-put g c = λ e. absurd cc

pub returns-in-Err-clause-refused : goal.returns-in-Err-clause-refused
returns-in-Err-clause-refused g c = rw (← c.self.view_is) (λ _. (
  (λ i. holder_of (end_of c.self.inside.number (c.push_as.ensures.same.0 i) (c.in-Err.ensures.rule.1 i)) c.self.inside.stealers.items c.self.inside.pushed_in_a_row c.self.inside.hand c.self.inside.kept.items),
  omega (arith, c.in-Err.ensures.refused, c.self.invariant.3, c.self.invariant.4),
))
