use Rattle.std.proofs.Common.{◌≡◌, ◌<◌, ◌≤◌, ◌^◌, ◌∙◌, ◌+◌, ◌+ℤ◌, arith, pos, neg_ℤ, ◌-ℤ◌, ◌≤ℤ◌, to_z, of_z}
use Rattle.std.proofs.lemmas.Int.{ints, to_z_pos}
use mir.Syntax.{w128}
use Rattle.ival_core.proofs.Quotients.{up-below, up-above, up-above_exact}
use Rattle.ival_core.proofs.divider.ceil_quotient.Goals as goal

pub returns-then-z-lt0 : goal.returns-then-z-lt0
returns-then-z-lt0 c d e l =
    let z = c.ranges.z in
    let h : c.args.z ≤ℤ pos 0 = omega (arith, ints, c.if-z-lt0.true) in
    let s = c.requires.size in
    let n : to_z w128 (of_z w128 (pos 0 -ℤ to_z w128 c.args.quotient)) ≡ neg_ℤ (pos c.args.quotient) = omega (arith, ints) in
    n ∙ up-below c.args.z c.args.quotient d c.args.rest e l h

pub returns-then-rest-eq0 : goal.returns-then-rest-eq0
returns-then-rest-eq0 c d e l =
    let z = c.ranges.z in
    let h : pos 0 ≤ℤ c.args.z = omega (arith, ints, c.if-z-lt0.false) in
    to_z_pos w128 c.args.quotient c.requires.size ∙ up-above_exact c.args.z c.args.quotient d c.args.rest e l h c.if-rest-eq0.true

pub returns-else-rest-eq0 : goal.returns-else-rest-eq0
returns-else-rest-eq0 c d e l =
    let z = c.ranges.z in
    let h : pos 0 ≤ℤ c.args.z = omega (arith, ints, c.if-z-lt0.false) in
    let s = c.requires.size in
    let n = c.if-rest-eq0.false in
    let r : 1 ≤ c.args.rest = omega arith in
    let q : c.args.quotient < 2 ^ 126 = c.requires.spare r in
    let k : to_z w128 (of_z w128 (to_z w128 c.args.quotient +ℤ pos 1)) ≡ pos (c.args.quotient + 1) = omega (arith, ints) in
    k ∙ up-above c.args.z c.args.quotient d c.args.rest e l h r
