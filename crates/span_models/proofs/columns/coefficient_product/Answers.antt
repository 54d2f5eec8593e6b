use Rattle.std.proofs.Common.{◌^◌, arith}
use Rattle.span_models.proofs.Fitting.{product_fits, product_kept, product_small}
use Rattle.span_models.proofs.columns.coefficient_product.Goals as goal

pub overflow_mul-result : goal.overflow_mul-result
overflow_mul-result c = product_fits c.args.a c.args.b (2 ^ 60) (2 ^ 60) c.ranges.a c.ranges.b c.requires.a_small c.requires.b_small (omega arith)

pub returns-clause-equals : goal.returns-clause-equals
returns-clause-equals c = product_kept c.args.a c.args.b (2 ^ 60) (2 ^ 60) c.ranges.a c.ranges.b c.requires.a_small c.requires.b_small (omega arith)

pub returns-clause-small : goal.returns-clause-small
returns-clause-small c = product_small c.args.a c.args.b (2 ^ 60) (2 ^ 60) c.ranges.a c.ranges.b c.requires.a_small c.requires.b_small (omega arith)
