use Rattle.std.proofs.Common.{◌∙◌, sym, w64}
use Rattle.std.proofs.lemmas.Int.{to_z-of_z}
use Rattle.spec_intervals.specs.Enclosure.{enclosure}
use Rattle.body_states.specs.Moments.{formula_point}
use Rattle.body_states.proofs.Alone.{formula_alone, middle_alone}
use Rattle.body_states.proofs.answers.BodyStatesStates.enclosure.Goals as goal

pub returns-else-has_several : goal.returns-else-has_several
returns-else-has_several c =
    let v = c.args.self.now in
    let e = c.args.f.now in
    let first = rw (to_z-of_z w64 c.args.a c.ranges.a) at c.new-times.ensures.first in
    let last = rw (to_z-of_z w64 c.args.b c.ranges.b) at c.new-times.ensures.last in
    let not_later = rw (first, last) at (sym c.has_several.ensures ∙ c.if-has_several.false) in
    formula_alone v c.args.a c.args.b (middle_alone c.args.a c.args.b c.requires.fits.ordered not_later).1 e c.point.result c.single.result
    (c.point.ensures ∙ λ i. formula_point v (first i) e)
    (λ plain step. c.single.ensures plain step ∙ λ i. enclosure (first i) (last i) c.point.result plain step)
