use Rattle.std.proofs.Common.{arith}
use Rattle.event_judge.proofs.Guards.{slot_upto, steps_of}
use Rattle.event_judge.proofs.listed_event.ListedEvent.new.Goals as goal

pub returns : goal.returns
returns c =
    let inner = c.greater_step_number.ensures.place in
    let outer = c.greater_step_number-2.ensures.place in
    steps_of c.args.sight c.args.event.now _ _ _ c.of-steps.ensures.sight (rw c.function.ensures.function at c.of-steps.ensures.made)
    c.add_guard-first.ensures.kept (rw c.guards-guards.ensures at c.add_guard-first.ensures.made)
    c.add_guard-second.ensures.kept (rw c.guards-guards.ensures at c.add_guard-second.ensures.made)
    c.greater_step_number-2.result c.fewest_for_step.ensures (omega (arith, inner, outer)) (slot_upto _ c.greater_step_number.result c.greater_step_number-2.result outer c.greater_step_number.ensures.other) c.greater_step_number-2.ensures.other
