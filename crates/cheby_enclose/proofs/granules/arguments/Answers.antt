use Rattle.std.proofs.Common.{w64}
use Rattle.std.proofs.lemmas.Int.{to_z-of_z}
use mir.Val.{SFits}
use Rattle.cheby_enclose.proofs.granules.arguments.Goals as goal

pub returns-clause-equals : goal.returns-clause-equals
returns-clause-equals c = λ axis. (
    let a : SFits w64 c.args.a = c.ranges.a in
    let b : SFits w64 c.args.b = c.ranges.b in
    rw (to_z-of_z w64 c.args.a a, to_z-of_z w64 c.args.b b) at (c.arguments_by.ensures.equals axis)
    )
