use Rattle.event_models.specs.Granules.{AreLines}
use Rattle.event_models.proofs.rooms.RowRooms.add_rows.Given as goal

abbrev pub invariant-loop-place : goal.invariant-loop-place
invariant-loop-place l = AreLines l.times.first l.times.last l.self
