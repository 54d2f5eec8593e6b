use Rattle.span_models.proofs.NearSums.{sum_swapped}
use Rattle.span_models.proofs.model.Model.sum.Goals as goal

pub returns-else-exponent : goal.returns-else-exponent
returns-else-exponent c = sum_swapped c.sum_at_higher_exponent-else-exponent.result c.args.other.now c.args.self.now c.sum_at_higher_exponent-else-exponent.ensures
