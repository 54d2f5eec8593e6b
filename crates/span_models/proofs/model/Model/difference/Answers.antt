use Rattle.span_models.proofs.NearSums.{difference_reached}
use Rattle.span_models.proofs.model.Model.difference.Goals as goal

pub returns : goal.returns
returns c = difference_reached c.operations.ensures.negated c.sum.result c.args.self.now c.args.other.now c.negated.result c.negated.ensures c.sum.ensures
