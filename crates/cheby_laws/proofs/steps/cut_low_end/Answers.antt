use Rattle.std.proofs.Common.{◌∙◌, w64}
use Rattle.std.proofs.lemmas.Int.{to_z-of_z}
use Rattle.cheby_laws.proofs.Limits.{negated_limit}
use Rattle.cheby_laws.proofs.steps.cut_low_end.Goals as goal

pub returns : goal.returns
returns c =
    let z = c.ranges.z in
    to_z-of_z w64 c.max.result (record { sfits = c.max.type_inv }) ∙ (rw (to_z-of_z w64 c.args.z z, negated_limit c.args.limit c.requires) at c.max.ensures.value)
