use Rattle.std.proofs.Common.{arith}
use Rattle.span_models.proofs.Halvings.{lead, enough}
use Rattle.span_models.proofs.settling.normalizing_shift.Goals as goal

pub overflow_sub-result : goal.overflow_sub-result
overflow_sub-result c = let l = lead c.args.size c.ilog2.result (omega arith) c.ilog2.ensures.next_power_gt in omega (arith, l)

pub returns-else-size-clause-enough : goal.returns-else-size-clause-enough
returns-else-size-clause-enough c = enough c.args.size c.ilog2.result (lead c.args.size c.ilog2.result (omega arith) c.ilog2.ensures.next_power_gt) c.ilog2.ensures.next_power_gt
