use Rattle.std.proofs.Common.{rules, ◌∙◌, FitsSigned, w64}
use Rattle.std.proofs.lemmas.Int.{to_z-of_z}
use Rattle.granule_values.proofs.granule_span.GranuleSpan.make_centre.Goals as goal

pub returns-clause-over : goal.returns-clause-over
returns-clause-over c =
    let fm : FitsSigned w64 c.middle.result = search rules in
    let sm = to_z-of_z w64 c.middle.result fm ∙ c.middle.ensures in
    λ axis. c.make_entries.ensures.arguments ∙ (rw sm at (c.argument_at-argument.ensures.equals axis))
