use Rattle.spec_intervals.specs.Interval.{product}
use Rattle.event_models.proofs.Rules.{made_of_two}
use Rattle.event_models.proofs.spans.Span.product_model.Goals as goal

pub returns-in-Some-Some : goal.returns-in-Some-Some
returns-in-Some-Some c =
    let t = c.args.self.now.times in
    made_of_two t.first t.last t.ordered product (λ x y h g. c.ends_stay_in_order.ensures.product x y) c.covering_product.result _ _ c.covering_product.ensures _ _ c.in-Some-Some.is-0 c.in-Some-Some.is-1
