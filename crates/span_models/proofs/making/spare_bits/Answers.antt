use Rattle.span_models.proofs.Lifting.{lead_below}
use Rattle.std.proofs.Common.{arith}
use Rattle.span_models.proofs.making.spare_bits.Goals as goal

pub overflow_sub-result : goal.overflow_sub-result
overflow_sub-result c = lead_below _ c.ilog2.result (omega arith) c.ilog2.ensures.power_le
