use Rattle.std.proofs.Common.{◌≡◌, subst}
use Rattle.std.specs.Prelude.{IfSome}
use Rattle.spec_bounds.specs.Terms.{bound_over}
use Rattle.spec_stills.specs.Margins.{StepsFit}
use Rattle.event_bounds.specs.Made.{bound_made}
use Rattle.span_models.specs.Margins.{margin_of}
use Rattle.still_spans.proofs.span_bound.SpanBound.clear_width_by_steps.Goals as goal

pub returns : goal.returns
returns c =
    let s = c.args.search.now in
    let x = c.args.self.now in
    let is : bound_made x.bound ≡ bound_over s.view s.event.function x.first x.last =
    λ i. record { range = c.requires.bounded.bound.range i; step = c.requires.bounded.bound.step i } in
    subst (λ p. IfSome c.max_width_by_steps.result (λ few. StepsFit p few (margin_of c.args.margin))) is c.max_width_by_steps.ensures
