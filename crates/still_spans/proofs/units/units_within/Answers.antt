use Rattle.std.proofs.Common.{w32}
use Rattle.std.proofs.lemmas.Int.{to_z-of_z}
use Rattle.still_spans.proofs.Doubled.{units_doubled, units_halved}
use Rattle.still_spans.proofs.units.units_within.Goals as goal

pub returns-then-unit-exponent : goal.returns-then-unit-exponent
returns-then-unit-exponent c =
    let within = rw (to_z-of_z w32 c.args.exponent c.ranges.exponent, to_z-of_z w32 c.args.unit c.ranges.unit) at c.exponent_rise.ensures.upto in
    units_doubled c.power_multiple.result c.args.size c.exponent_rise.result c.args.exponent c.args.unit within c.power_multiple.ensures

pub returns-else-unit-exponent : goal.returns-else-unit-exponent
returns-else-unit-exponent c =
    let apart = rw (to_z-of_z w32 c.args.exponent c.ranges.exponent, to_z-of_z w32 c.args.unit c.ranges.unit) at c.exponent_gap.ensures in
    units_halved c.power_quotient.result c.args.size c.exponent_gap.result c.args.exponent c.args.unit apart c.power_quotient.ensures
