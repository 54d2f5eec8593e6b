use Rattle.std.proofs.Common.{◌∙◌, w64}
use Rattle.std.proofs.lemmas.Int.{to_z-of_z}
use Rattle.cheby_laws.proofs.Limits.{limit_is}
use Rattle.cheby_laws.proofs.steps.cut_high_end.Goals as goal

pub returns : goal.returns
returns c =
    let z = c.ranges.z in
    to_z-of_z w64 c.min.result (record { sfits = c.min.type_inv }) ∙ (rw (to_z-of_z w64 c.args.z z, limit_is c.args.limit c.requires) at c.min.ensures.value)
