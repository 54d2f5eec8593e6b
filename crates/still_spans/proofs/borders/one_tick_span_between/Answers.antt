use Rattle.std.proofs.Common.{rules, subst, sym, w64}
use Rattle.std.proofs.lemmas.Int.{to_z-of_z}
use mir.Val.{SFits}
use Rattle.still_spans.specs.Found.{IsStillOver}
use Rattle.still_spans.proofs.BetweenSpans.{unit_over}
use Rattle.still_spans.proofs.borders.one_tick_span_between.Goals as goal

pub returns-then-are_one_tick_apart-clause-still : goal.returns-then-are_one_tick_apart-clause-still
returns-then-are_one_tick_apart-clause-still c = λ sooner in_order.
    let s = c.args.search.now in
    let apart = c.are_one_tick_apart.ensures in
    let over = unit_over s c.args.before c.args.after c.is_search.ensures c.requires.after c.requires.ordered (apart.next c.if-are_one_tick_apart.true)
    (apart.same c.if-are_one_tick_apart.true) (apart.known c.if-are_one_tick_apart.true) c.units_of_one_sign_are_still.ensures sooner in_order in
    let from : SFits w64 c.args.before.upto = search rules in
    let upto : SFits w64 c.args.after.from = search rules in
    let made = simp to_z-of_z at c.one_tick_span.ensures in
    subst (IsStillOver s c.args.before.upto c.args.after.from) (sym made) over
