use Rattle.event_models.specs.Spans.{term_at}
use Rattle.event_models.proofs.by_steps.SpanArithmetic.product.Goals as goal

pub returns : goal.returns
returns c = let s = c.args.self.now in λ p q part. c.product_model.ensures (term_at s p) (term_at s q)
