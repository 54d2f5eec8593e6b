use Rattle.granule_values.proofs.Shared.{fewer_all}
use Rattle.granule_values.proofs.granule_span.GranuleSpan.range_by_new_rows.Goals as goal

pub range_by_rows-requires-clause-whole : goal.range_by_rows-requires-clause-whole
range_by_rows-requires-clause-whole c = record {
  over = c.make_whole.ensures.over;
  rows = fewer_all c.args.quantity c.args.self.now.granule.n _ c.make_whole.new.rows c.entries_to_make-entries.ensures.enough c.make_whole.ensures.rows;
}
