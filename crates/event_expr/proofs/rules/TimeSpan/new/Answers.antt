use Rattle.std.proofs.Common.{w64}
use Rattle.std.proofs.lemmas.Int.{to_z-of_z}
use mir.Syntax.{w128}
use mir.Val.{SFits}
use Rattle.event_expr.proofs.Steps.{offsets-made}
use Rattle.event_expr.proofs.rules.TimeSpan.new.Goals as goal

pub invariant_of-result : goal.invariant_of-result
invariant_of-result c =
    let f : SFits w64 c.args.first = c.ranges.first in
    let l : SFits w64 c.args.last = c.ranges.last in
    let m : SFits w64 c.middle-middle.result = record { sfits = c.middle-middle.type_inv } in
    let d : SFits w128 c.time_after.result = record { sfits = c.time_after.type_inv } in
    let e : SFits w128 c.time_after-2.result = record { sfits = c.time_after-2.type_inv } in
    rw (to_z-of_z w64 c.args.first f, to_z-of_z w64 c.args.last l) (c.requires, offsets-made c.args.first c.args.last c.requires c.middle-middle.result c.time_after.result c.time_after-2.result c.of-distances.result (simp to_z-of_z at c.middle-middle.ensures) (simp to_z-of_z at c.time_after.ensures) (simp to_z-of_z at c.time_after-2.ensures) (simp to_z-of_z at c.of-distances.ensures.equals))
