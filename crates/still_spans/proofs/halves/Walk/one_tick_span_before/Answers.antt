use Rattle.std.proofs.Common.{◌-◌, List, length, sym, ap, ◌∙◌}
use Rattle.std.specs.List.{slice_get}
use Rattle.std.specs.Option.{option_copied}
use Rattle.spec_stills.specs.declared.still.StillSpan.{StillSpan}
use Rattle.still_spans.proofs.FollowingSpans.{unit_added}
use Rattle.still_spans.proofs.halves.Walk.one_tick_span_before.Goals as goal

pub returns-in-Some : goal.returns-in-Some
returns-in-Some c = λ from found.
    let xs = c.args.self.now.found.items in
    let last = sym (ap (λ (ys : List StillSpan). slice_get ys (length ys - 1)) c.deref.ensures.value) ∙ (sym c.last.ensures.value ∙ ap option_copied c.in-Some.is) in
    unit_added c.args.search.now from xs c.args.still.from c.in-Some.last.now c.one_tick_span_between.result last found c.one_tick_span_between.ensures.next
    c.one_tick_span_between.ensures.still
