use Rattle.span_models.proofs.TangentSteps.{half_kept, half_narrow, sum_fits, summed}
use Rattle.span_models.proofs.Fitting.{factor_kept}
use Rattle.span_models.proofs.tangents.half_sum.Goals as goal

pub overflow_add-result : goal.overflow_add-result
overflow_add-result c = rw (factor_kept c.args.first c.ranges.first, factor_kept c.args.last c.ranges.last) (sum_fits c.args.first c.args.last c.ranges.first c.ranges.last)

pub overflow_cast-result-3 : goal.overflow_cast-result-3
overflow_cast-result-3 c = rw (summed c.args.first c.args.last c.ranges.first c.ranges.last) (half_narrow c.args.first c.args.last c.ranges.first c.ranges.last)

pub returns : goal.returns
returns c = rw (summed c.args.first c.args.last c.ranges.first c.ranges.last) (half_kept c.args.first c.args.last c.ranges.first c.ranges.last)
