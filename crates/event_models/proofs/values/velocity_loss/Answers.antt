use Rattle.std.proofs.Common.{arith, ◌^◌, ◌≤◌, ◌+◌, ◌*◌}
use Rattle.std.proofs.Math.Nat.{pow-le-pow_right}
use Rattle.std.proofs.lemmas.Nat.{mul-le}
use Rattle.event_models.proofs.values.velocity_loss.Goals as goal

pub power_multiple-requires-clause-small : goal.power_multiple-requires-clause-small
power_multiple-requires-clause-small c = let few : 2 ^ c.args.raised ≤ 2 ^ 41 = pow-le-pow_right (omega arith) c.requires.raised in omega (arith, few)

pub power_multiple-requires-2-clause-small : goal.power_multiple-requires-2-clause-small
power_multiple-requires-2-clause-small c =
    let few : 2 ^ c.args.raised ≤ 2 ^ 41 = pow-le-pow_right (omega arith) c.requires.raised in
    let low : 2 ^ c.args.lowered ≤ 2 ^ 14 = pow-le-pow_right (omega arith) c.requires.lowered in
    let own = c.quotient.ensures.small in
    let is = c.power_multiple.ensures in
    let both : (c.quotient.result + 3) * 2 ^ c.args.lowered ≤ (2 ^ 48 + 3) * 2 ^ 14 = mul-le (c.quotient.result + 3) (2 ^ c.args.lowered) (2 ^ 48 + 3) (2 ^ 14) (omega (arith, few, own, is)) low in
    omega (arith, both)
