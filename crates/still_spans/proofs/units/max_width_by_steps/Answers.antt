use Rattle.still_spans.proofs.Doubled.{steps_if}
use Rattle.event_bounds.specs.Made.{bound_made}
use Rattle.span_models.specs.Margins.{margin_of}
use Rattle.still_spans.proofs.units.max_width_by_steps.Goals as goal

pub returns-then-has_fine_unit : goal.returns-then-has_fine_unit
returns-then-has_fine_unit c =
    steps_if (bound_made c.args.bound.now) (margin_of c.args.margin) c.units_in_margin-units.result c.take_31_sixteenths.result c.steps_within.result
    (c.has_fine_unit.ensures c.if-has_fine_unit.true) c.units_in_margin-units.ensures c.take_31_sixteenths.ensures (rw c.greatest_end.ensures at c.steps_within.ensures)
