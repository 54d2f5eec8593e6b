use Rattle.span_models.proofs.Widened.{sum_covered}
use Rattle.span_models.proofs.model.Model.covering_sum.Goals as goal

pub returns-in-Some : goal.returns-in-Some
returns-in-Some c = sum_covered c.operations_are_covered.ensures.sum c.args.self.now c.args.other.now c.in-Some.near c.in-Some.ensures c.widen_by_sum_rounding.result c.widen_by_sum_rounding.ensures
