use Rattle.std.proofs.Common.{arith, ◌≡◌, ◌∙◌, ◌+◌, ◌/◌, ◌≤◌, pos, to_z}
use Rattle.std.proofs.lemmas.Int.{ints, to_z-of_z}
use Rattle.std.proofs.Math.Nat.{div-le_self}
use mir.Syntax.{w128}
use Rattle.body_states.proofs.Masses.{ceil_next, ceil_whole}
use Rattle.body_states.proofs.factors.quotient_up.Goals as goal

pub returns-then-low-whole : goal.returns-then-low-whole
returns-then-low-whole c =
    let under : c.args.top / c.args.whole ≤ c.args.top = div-le_self c.args.top c.args.whole in
    let same : to_z w128 (c.args.top / c.args.whole) ≡ pos (c.args.top / c.args.whole) = omega (arith, ints, under, c.requires.few) in
    rw same (to_z-of_z w128 (pos (c.args.top / c.args.whole + 1)) (omega (arith, ints, under, c.requires.few)) ∙ ceil_next c.args.top c.args.whole c.requires.some c.if-low-whole.true)

pub returns-else-low-whole : goal.returns-else-low-whole
returns-else-low-whole c =
    let under : c.args.top / c.args.whole ≤ c.args.top = div-le_self c.args.top c.args.whole in
    let same : to_z w128 (c.args.top / c.args.whole) ≡ pos (c.args.top / c.args.whole) = omega (arith, ints, under, c.requires.few) in
    rw same (ceil_whole c.args.top c.args.whole c.requires.some (λ less. let at_most = c.if-low-whole.false in absurd (omega (arith, less, at_most))))
