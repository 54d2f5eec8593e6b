use Rattle.std.proofs.Common.{◌∙◌}
use Rattle.granule_values.proofs.granule_span.GranuleSpan.make_whole.Goals as goal

pub returns-clause-over : goal.returns-clause-over
returns-clause-over c = λ axis. c.make_entries.ensures.arguments ∙ c.arguments-arguments.ensures.over axis
