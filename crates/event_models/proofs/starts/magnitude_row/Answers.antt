use Rattle.event_models.proofs.RowStarts.{sized_made}
use Rattle.event_models.proofs.starts.magnitude_row.Goals as goal

pub returns-clause-sized : goal.returns-clause-sized
returns-clause-sized c = sized_made c.linear_row.result c.args.size c.linear_row.ensures.numbers c.linear_row.ensures.error
