use Rattle.std.proofs.lemmas.Int.{to_z-of_z}
use Rattle.cheby_difference.proofs.spans.span_inputs.Goals as goal

pub returns-clause-arguments : goal.returns-clause-arguments
returns-clause-arguments c =
    let a = c.ranges.a in
    let b = c.ranges.b in
    simp to_z-of_z at (c.arguments.ensures.equals c.args.axis)
