use Rattle.event_models.proofs.RowStarts.{first_made}
use Rattle.event_models.proofs.starts.first_row.Goals as goal

pub returns-clause-first : goal.returns-clause-first
returns-clause-first c = first_made c.linear_row.result c.linear_row.ensures.numbers c.linear_row.ensures.error
