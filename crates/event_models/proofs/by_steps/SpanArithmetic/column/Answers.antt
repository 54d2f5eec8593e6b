use Rattle.std.proofs.Common.{subst}
use Rattle.spec_bodies.specs.Reading.{IsReadable}
use Rattle.spec_bodies.specs.Views.{value_interval}
use Rattle.event_models.specs.Covered.{IsIfMade}
use Rattle.event_models.proofs.by_steps.SpanArithmetic.column.Goals as goal
use Rattle.event_models.proofs.by_steps.SpanArithmetic.column.Goals.{After-listed_columns_are_read}

readable : (c : After-listed_columns_are_read) → IsReadable c.args.self.now.states.now c.args.number c.args.axis
readable c = c.listed_columns_are_read.ensures.readable _ _ _ c.requires.ready.fits.view (c.listed_columns_are_read.ensures.seen _ _ _ _ c.requires.part)

pub column_granule-granule-requires : goal.column_granule-granule-requires
column_granule-granule-requires c =
    record { same = c.requires.ready.same; fits = c.requires.ready.fits; usable = (readable (goal.at.column_granule-granule-requires c).After-listed_columns_are_read).usable }

pub model-requires : goal.model-requires
model-requires c =
    record { granule = c.column_granule-granule.ensures.over; axis = (readable (goal.at.model-requires c).After-listed_columns_are_read).along; lines = c.rows.ensures }

pub returns : goal.returns
returns c =
    let t = c.args.self.now.times in
    subst (λ s. IsIfMade t.first t.last c.model.result (λ time. value_interval c.args.quantity s time time)) (c.column_granule-granule.ensures.series c.args.axis) c.model.ensures
