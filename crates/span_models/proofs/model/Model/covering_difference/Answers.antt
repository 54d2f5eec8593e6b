use Rattle.span_models.proofs.Widened.{difference_covered}
use Rattle.span_models.proofs.model.Model.covering_difference.Goals as goal

pub returns-in-Some : goal.returns-in-Some
returns-in-Some c = difference_covered c.operations_are_covered.ensures.difference c.args.self.now c.args.other.now c.in-Some.near c.in-Some.ensures c.widen_by_sum_rounding.result c.widen_by_sum_rounding.ensures
