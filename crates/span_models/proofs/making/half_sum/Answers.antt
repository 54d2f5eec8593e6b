use Rattle.std.proofs.lemmas.Int.{to_z-of_z}
use Rattle.std.proofs.Common.{◌+ℤ◌, w64}
use Rattle.spec_numbers.specs.Numbers.{floor_div}
use mir.Syntax.{w128}
use Rattle.span_models.proofs.Fitting.{ends_fit, half_kept, half_fits}
use Rattle.span_models.proofs.making.half_sum.Goals as goal

pub overflow_add-result : goal.overflow_add-result
overflow_add-result c = rw (to_z-of_z w128 c.args.lo c.ranges.lo, to_z-of_z w128 c.args.hi c.ranges.hi) (ends_fit c.args.lo c.args.hi c.requires.lo_small c.requires.hi_small)

pub overflow_cast-result : goal.overflow_cast-result
overflow_cast-result c =
    let p = c.requires.lo_small in
    let q = c.requires.hi_small in
    rw (to_z-of_z w128 c.args.lo c.ranges.lo, to_z-of_z w128 c.args.hi c.ranges.hi, to_z-of_z w128 (c.args.lo +ℤ c.args.hi) (ends_fit c.args.lo c.args.hi p q), half_kept c.args.lo c.args.hi p q) (half_fits c.args.lo c.args.hi p q)

pub returns : goal.returns
returns c =
    let p = c.requires.lo_small in
    let q = c.requires.hi_small in
    rw (to_z-of_z w128 c.args.lo c.ranges.lo, to_z-of_z w128 c.args.hi c.ranges.hi, to_z-of_z w128 (c.args.lo +ℤ c.args.hi) (ends_fit c.args.lo c.args.hi p q), half_kept c.args.lo c.args.hi p q) (to_z-of_z w64 (floor_div (c.args.lo +ℤ c.args.hi) 2) (half_fits c.args.lo c.args.hi p q))
