use Rattle.std.proofs.Common.{◌-◌, ◌^◌, ◌≤◌, arith, unsigned_abs}
use Rattle.span_models.proofs.Fitting.{product_fits, product_kept, product_small}
use Rattle.span_models.proofs.tangents.product_with_line.Goals.{Start}
use Rattle.span_models.proofs.tangents.product_with_line.Goals as goal

below : (c : Start) → unsigned_abs c.args.z ≤ 2 ^ 62 - 1
below c = let z = c.requires.z_small in omega (arith, z)

pub overflow_mul-result : goal.overflow_mul-result
overflow_mul-result c = product_fits c.args.x c.args.z (2 ^ 56) (2 ^ 62 - 1) c.ranges.x c.ranges.z c.requires.x_small (below c) (omega arith)

pub returns-clause-equals : goal.returns-clause-equals
returns-clause-equals c = product_kept c.args.x c.args.z (2 ^ 56) (2 ^ 62 - 1) c.ranges.x c.ranges.z c.requires.x_small (below c) (omega arith)

pub returns-clause-small : goal.returns-clause-small
returns-clause-small c =
    let s = product_small c.args.x c.args.z (2 ^ 56) (2 ^ 62 - 1) c.ranges.x c.ranges.z c.requires.x_small (below c) (omega arith) in
    omega (arith, s)
