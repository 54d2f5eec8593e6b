use Rattle.std.proofs.Common.{arith}
use Rattle.cheby_difference.proofs.SlopeRows.{u_multiple_fits, r_multiple_fits}
use Rattle.cheby_difference.proofs.slopes.fill_slopes_and_changes.Goals as goal

pub multiply_by_degrees-requires-clause-fits : goal.multiply_by_degrees-requires-clause-fits
multiply_by_degrees-requires-clause-fits c k h =
    let few = c.requires.n_in in
    let entries = c.saturating_sub-entries.ensures in
    u_multiple_fits c.args.x c.requires.x_in c.fill_ur.new.u k (omega (arith, h, few, entries)) (c.fill_ur.ensures.u_row k h)

pub multiply_by_degrees-requires-2-clause-fits : goal.multiply_by_degrees-requires-2-clause-fits
multiply_by_degrees-requires-2-clause-fits c k h =
    let few = c.requires.n_in in
    let entries = c.saturating_sub-entries.ensures in
    r_multiple_fits c.args.x c.requires.x_in c.fill_ur.new.r k (omega (arith, h, few, entries)) (c.fill_ur.ensures.r_row k h)
