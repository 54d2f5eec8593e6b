use Rattle.std.proofs.lemmas.Int.{to_z-of_z}
use Rattle.ival_core.proofs.Shifts.{one_shifted}
use Rattle.ival_core.proofs.Powers.{mant_fits, mant_bound, mant_wide}
use Rattle.ival_core.proofs.decimals.shifted_mantissa.Goals as goal

pub overflow_mul-result : goal.overflow_mul-result
overflow_mul-result c =
    let m = c.ranges.mant in
    let w = mant_wide c.args.mant m in
    rw (one_shifted c.args.k c.requires) (simp to_z-of_z (mant_fits c.args.mant c.args.k m c.requires))

pub returns-clause-equals : goal.returns-clause-equals
returns-clause-equals c =
    let m = c.ranges.mant in
    let w = mant_wide c.args.mant m in
    let f = mant_fits c.args.mant c.args.k m c.requires in
    rw (one_shifted c.args.k c.requires) (simp to_z-of_z)

pub returns-clause-bound : goal.returns-clause-bound
returns-clause-bound c =
    let m = c.ranges.mant in
    let w = mant_wide c.args.mant m in
    let f = mant_fits c.args.mant c.args.k m c.requires in
    rw (one_shifted c.args.k c.requires) (simp to_z-of_z (mant_bound c.args.mant c.args.k m c.requires))
