use Rattle.std.proofs.Common.{arith}
use Rattle.std.proofs.lemmas.Int.{ints}
use Rattle.span_models.proofs.Widened.{sum_enough, widened_for}
use Rattle.span_models.proofs.covering.widen_by_sum_rounding.Goals as goal

pub returns-else-exponent-2 : goal.returns-else-exponent-2
returns-else-exponent-2 c =
    let bm = c.bulk.ensures in
    let bn = c.bulk-else-exponent-2.ensures in
    let enough = c.sum_rounding_units.ensures in
    let k = c.exponent.ensures.equals in
    let m = c.exponent-2.ensures.equals in
    let o = c.exponent-else-exponent.ensures.equals in
    let n = c.exponent-else-exponent-2.ensures.equals in
    let ks = c.exponent.ensures.small.exponent in
    let ms = c.exponent-2.ensures.small.exponent in
    let ns = c.exponent-else-exponent-2.ensures.small.exponent in
    let f = c.if-exponent.false in
    let g = c.if-exponent-2.false in
    widened_for _ c.args.k.now _ (sum_enough c.units_that_are_enough.ensures.sum c.args.m.now c.args.n.now c.args.k.now _ (omega (arith, ints, f, k, m, ks, ms)) (omega (arith, ints, g, o, n, ks, ns)) (omega (arith, bm, bn, enough))) c.widened.result c.widened.ensures
