use Rattle.std.proofs.lemmas.Int.{to_z-of_z}
use Rattle.ival_core.proofs.Powers.{mant_wide}
use Rattle.ival_core.proofs.Shifts.{product_fits}
use Rattle.ival_core.proofs.ends.wide_product.Goals as goal

pub overflow_mul-result : goal.overflow_mul-result
overflow_mul-result c =
    let a = c.ranges.a in
    let b = c.ranges.b in
    let v = mant_wide c.args.a a in
    let w = mant_wide c.args.b b in
    simp to_z-of_z (product_fits c.args.a c.args.b a b)

pub returns : goal.returns
returns c =
    let a = c.ranges.a in
    let b = c.ranges.b in
    let v = mant_wide c.args.a a in
    let w = mant_wide c.args.b b in
    let f = product_fits c.args.a c.args.b a b in
    simp to_z-of_z
