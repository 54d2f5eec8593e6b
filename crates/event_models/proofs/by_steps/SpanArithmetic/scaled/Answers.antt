use Rattle.spec_bodies.specs.Meanings.{factor_interval}
use Rattle.spec_bodies.specs.Views.{factor_of}
use Rattle.event_models.specs.Spans.{term_at}
use Rattle.event_models.proofs.Constants.{factor_ordered}
use Rattle.event_models.proofs.Rules.{constant_made}
use Rattle.event_models.proofs.by_steps.SpanArithmetic.scaled.Goals as goal

pub returns : goal.returns
returns c =
    let s = c.args.self.now in
    let v = s.states.now in
    λ p part. c.product_model.ensures (λ t. factor_interval (factor_of v c.args.factor)) (term_at s p)
    (constant_made s.times.first s.times.last s.times.ordered c.of_interval-constant.result _ (factor_ordered v.ephemeris.header.emrat c.args.factor)
    (rw c.factor.ensures at c.of_interval-constant.ensures))
