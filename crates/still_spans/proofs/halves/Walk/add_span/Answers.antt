use Rattle.std.proofs.Common.{subst, sym, arith}
use Rattle.std.proofs.lemmas.Int.{ints}
use Rattle.still_spans.specs.Found.{AreFound}
use Rattle.still_spans.proofs.FollowingSpans.{added}
use Rattle.still_spans.proofs.halves.Walk.add_span.Goals as goal

pub add_one_tick_span_before-requires : goal.add_one_tick_span_before-requires
add_one_tick_span_before-requires c =
    let over = c.requires.still in
    let begins = over.from in
    let ends = over.upto in
    let several = c.requires.several in
    record { still = over.still; several = omega (arith, ints, begins, ends, several) }

pub returns : goal.returns
returns c = λ from found.
    let s = c.args.search.now in
    let begins = c.requires.still.from in
    let before = c.in_ok-add_one_tick_span_before.ensures from (subst (AreFound s from c.args.self.now.found.items) (sym begins) found) in
    subst (λ xs. AreFound s from xs c.args.b) (sym c.in_ok-push.ensures.items)
    (added s from c.add_one_tick_span_before.new.self.found.items c.args.a c.args.b c.args.still
    (subst (AreFound s from c.add_one_tick_span_before.new.self.found.items) begins before) c.requires.several c.requires.still)
