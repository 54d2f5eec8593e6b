use Rattle.std.proofs.Common.{rules, ◌∙◌, FitsSigned, w64}
use Rattle.std.proofs.lemmas.Int.{to_z-of_z}
use Rattle.granule_values.proofs.granule_span.GranuleSpan.arguments.Goals as goal

pub returns-clause-over : goal.returns-clause-over
returns-clause-over c =
    let fa : FitsSigned w64 c.first-first.result = search rules in
    let fb : FitsSigned w64 c.last-last.result = search rules in
    let sa = to_z-of_z w64 c.first-first.result fa ∙ c.first-first.ensures in
    let sb = to_z-of_z w64 c.last-last.result fb ∙ c.last-last.ensures in
    λ axis. rw (sa, sb) at (c.arguments_by.ensures.equals axis)
