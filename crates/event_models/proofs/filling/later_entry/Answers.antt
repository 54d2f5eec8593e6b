use Rattle.event_models.proofs.RowCovers.{entry_later}
use Rattle.event_models.proofs.filling.later_entry.Goals as goal

pub bounded_entry-requires-clause-entry : goal.bounded_entry-requires-clause-entry
bounded_entry-requires-clause-entry c = entry_later c.args.kind c.args.line.now c.args.k c.args.rows.now c.in-Some.row c.requires.many c.requires.rows c.requires.entries c.in-Some.ensures.step
