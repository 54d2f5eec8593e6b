use Rattle.std.proofs.Common.{◌*◌}
use Rattle.span_models.proofs.Widened.{product_units}
use Rattle.span_models.proofs.covering.product_rounding_units.Goals as goal

pub returns-then-units : goal.returns-then-units
returns-then-units c = product_units (c.args.m * c.args.n) c.args.gap c.min.result c.min.ensures
