use Rattle.event_models.proofs.rooms.RowRooms.model.Goals as goal

pub axis_model-requires-clause-served : goal.axis_model-requires-clause-served
axis_model-requires-clause-served c =
    let t = c.args.times.now in
    rw c.in-Some.is at (c.serving_row.ensures t.first t.last c.requires.lines)
