use Rattle.std.proofs.Common.{arith, rules}
use Rattle.std.proofs.lemmas.Int.{ints}
use mir.Syntax.{w64}
use mir.Val.{SFits}
use Rattle.ordered_join.proofs.joining.window_of_leaf.Goals as goal

pub overflow_add-first : goal.overflow_add-first
overflow_add-first c =
    let first : SFits w64 c.args.leaf.now.node.a = search rules in
    let last : SFits w64 c.args.leaf.now.node.b = search rules in
    omega (arith, ints, c.requires)
