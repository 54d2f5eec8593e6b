use Rattle.std.proofs.Common.{arith}
use Rattle.spec_bodies.proofs.InUse.{usable_numbers}
use Rattle.event_models.proofs.rooms.RowRooms.add_rows.Goals as goal

pub column_granule-granule-requires-clause-usable : goal.column_granule-granule-requires-clause-usable
column_granule-granule-requires-clause-usable c = usable_numbers c.args.states.now c.columns-numbers.ensures.view _ c.columns-numbers.ensures.in_use c.loop-place.place 0 (omega arith)
