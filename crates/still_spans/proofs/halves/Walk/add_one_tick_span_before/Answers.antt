use Rattle.std.proofs.Common.{subst, sym}
use Rattle.still_spans.specs.Found.{AreFound}
use Rattle.still_spans.proofs.halves.Walk.add_one_tick_span_before.Goals as goal

pub returns-in_ok-push-in-Some : goal.returns-in_ok-push-in-Some
returns-in_ok-push-in-Some c = λ from found.
    subst (λ xs. AreFound c.args.search.now from xs c.args.still.from) (sym c.in_ok-push-in-Some.ensures.items) (rw c.in-Some.is at (c.one_tick_span_before.ensures from found))
