use Rattle.std.proofs.Common.{◌≡◌, ◌∙◌, arith, pos, neg_ℤ, ◌-ℤ◌, ◌≤ℤ◌, to_z, of_z}
use Rattle.std.proofs.lemmas.Int.{ints}
use mir.Syntax.{w128}
use Rattle.ival_core.proofs.Quotients.{down-below, down-below_exact}
use Rattle.ival_core.proofs.divider.floor_quotient.Goals as goal

pub returns-then-rest-eq0 : goal.returns-then-rest-eq0
returns-then-rest-eq0 c d e l =
    let z = c.ranges.z in
    let h : c.args.z ≤ℤ pos 0 = omega (arith, ints, c.if-z-ge0.false) in
    let s = c.requires in
    let n : to_z w128 (of_z w128 (pos 0 -ℤ to_z w128 c.args.quotient)) ≡ neg_ℤ (pos c.args.quotient) = omega (arith, ints) in
    n ∙ down-below_exact c.args.z c.args.quotient d c.args.rest e l h c.if-rest-eq0.true

pub returns-else-rest-eq0 : goal.returns-else-rest-eq0
returns-else-rest-eq0 c d e l =
    let z = c.ranges.z in
    let h : c.args.z ≤ℤ pos 0 = omega (arith, ints, c.if-z-ge0.false) in
    let s = c.requires in
    let n : to_z w128 (of_z w128 (to_z w128 (of_z w128 (pos 0 -ℤ to_z w128 c.args.quotient)) -ℤ pos 1)) ≡ neg_ℤ (pos c.args.quotient) -ℤ pos 1 = omega (arith, ints) in
    n ∙ down-below c.args.z c.args.quotient d c.args.rest e l h (omega (arith, c.if-rest-eq0.false))
