use Rattle.std.proofs.Common.{◌∙◌}
use Rattle.granule_values.proofs.Shared.{fewer_all}
use Rattle.granule_values.proofs.granule_span.GranuleSpan.rows_among.Goals as goal

pub returns : goal.returns
returns c = record {
  over = λ axis. c.rows_over.ensures.arguments ∙ c.arguments.ensures.over axis;
  rows = fewer_all c.args.quantity c.args.self.now.granule.n _ c.rows_over.result.now c.entries_to_make-entries.ensures.enough c.rows_over.ensures.rows;
}
