use Rattle.std.proofs.Common.{rules, w32}
use Rattle.std.proofs.lemmas.Int.{to_z-of_z}
use mir.Syntax.{w128}
use mir.Val.{SFits}
use Rattle.event_expr.proofs.Steps.{twice_size-made}
use Rattle.event_expr.proofs.rules.twice_size.Goals as goal

pub returns : goal.returns
returns c =
    let l : SFits w128 c.parts-lo.result.0 = search rules in
    let h : SFits w128 c.parts-lo.result.1 = search rules in
    let s : SFits w32 c.parts-lo.result.2 = search rules in
    let d : SFits w128 c.twice_greater_magnitude.result = record { sfits = c.twice_greater_magnitude.type_inv } in
    twice_size-made c.args.range _ _ _ _ c.of.result c.parts-lo.ensures.lo c.parts-lo.ensures.hi c.parts-lo.ensures.exponent (simp to_z-of_z at c.twice_greater_magnitude.ensures) (simp to_z-of_z at c.of.ensures.equals)
