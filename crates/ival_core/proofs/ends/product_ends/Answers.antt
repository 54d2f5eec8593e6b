use Rattle.std.proofs.Common.{◌≡◌}
use Rattle.std.proofs.lemmas.Int.{to_z-of_z}
use Rattle.spec_intervals.specs.Interval.{least4, greatest4}
use Rattle.spec_intervals.proofs.Products.{corners_ordered}
use Rattle.ival_core.proofs.Shifts.{greatest_bound, least_bound}
use Rattle.ival_core.proofs.ends.product_ends.Goals as goal
use Rattle.ival_core.proofs.ends.product_ends.Goals.{After-products_by_sign}

ends_are : (c : After-products_by_sign) → (c.products_by_sign.result.0 ≡ least4 c.args.a c.args.b c.args.c c.args.d) × (c.products_by_sign.result.1 ≡ greatest4 c.args.a c.args.b c.args.c c.args.d)
ends_are c =
    let a = c.ranges.a in
    let b = c.ranges.b in
    let p = c.ranges.c in
    let q = c.ranges.d in
    (simp to_z-of_z at c.products_by_sign.ensures.least, simp to_z-of_z at c.products_by_sign.ensures.greatest)

pub returns-clause-ordered : goal.returns-clause-ordered
returns-clause-ordered c =
    let is = ends_are c in rw (is.0, is.1) (corners_ordered c.args.a c.args.b c.args.c c.args.d)

pub returns-clause-least_bound : goal.returns-clause-least_bound
returns-clause-least_bound c =
    rw (ends_are c).0 (least_bound c.args.a c.args.b c.args.c c.args.d c.requires.a_small c.requires.b_small c.requires.c_small c.requires.d_small)

pub returns-clause-greatest_bound : goal.returns-clause-greatest_bound
returns-clause-greatest_bound c =
    rw (ends_are c).1 (greatest_bound c.args.a c.args.b c.args.c c.args.d c.requires.a_small c.requires.b_small c.requires.c_small c.requires.d_small)
