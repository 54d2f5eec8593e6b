use Rattle.std.proofs.Common.{rules, ◌∙◌, FitsSigned}
use Rattle.std.proofs.lemmas.Int.{to_z-of_z}
use mir.Syntax.{w128}
use Rattle.body_states.proofs.Masses.{kept}
use Rattle.body_states.proofs.factors.quotient_interval.Goals as goal

pub returns : goal.returns
returns c =
    let fl : FitsSigned w128 c.quotient_down.result = search rules in
    let fh : FitsSigned w128 c.quotient_up.result = search rules in
    let low = to_z-of_z w128 c.quotient_down.result fl ∙ rw (c.from-top.ensures, c.from-whole.ensures) at c.quotient_down.ensures in
    let high = to_z-of_z w128 c.quotient_up.result fh ∙ rw (c.from-top.ensures, c.from-whole.ensures) at c.quotient_up.ensures in
    (rw (low, high) at c.of.ensures.equals) ∙ kept c.args.part c.args.whole c.requires.some c.requires.at_most c.requires.enough
