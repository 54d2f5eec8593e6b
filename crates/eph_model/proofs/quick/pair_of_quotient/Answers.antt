use Rattle.std.proofs.Common.{arith, ◌≡◌, ◌∙◌, pos, neg_ℤ, ◌-ℤ◌, ◌≤ℤ◌, to_z, of_z, w64}
use Rattle.std.proofs.lemmas.Int.{ints}
use Rattle.eph_model.proofs.QuickPairs.{pair, pair_above, pair_below}
use Rattle.eph_model.proofs.quick.pair_of_quotient.Goals as goal

pub returns-then-number-lt0 : goal.returns-then-number-lt0
returns-then-number-lt0 c =
    let high = c.ceil_quotient-high in
    let few = c.requires.small in
    let most = high.ensures.most in
    let lo : to_z w64 (of_z w64 (pos 0 -ℤ to_z w64 high.result)) ≡ neg_ℤ (pos high.result) = omega (arith, ints) in
    let hi : to_z w64 (of_z w64 (pos 0 -ℤ to_z w64 c.args.q.now.quotient)) ≡ neg_ℤ (pos c.args.q.now.quotient) = omega (arith, ints) in
    let below : c.args.number.mant ≤ℤ pos 0 = omega (arith, ints, c.if-number-lt0.true) in
    (λ i. pair (lo i) (hi i))
    ∙ pair_below c.args.number c.args.q.now.quotient c.args.q.now.left high.result c.requires.is high.ensures.exact high.ensures.next below

pub returns-else-number-lt0 : goal.returns-else-number-lt0
returns-else-number-lt0 c =
    let high = c.ceil_quotient-high in
    let few = c.requires.small in
    let most = high.ensures.most in
    let lo : to_z w64 c.args.q.now.quotient ≡ pos c.args.q.now.quotient = omega (arith, ints) in
    let hi : to_z w64 high.result ≡ pos high.result = omega (arith, ints) in
    let above : pos 0 ≤ℤ c.args.number.mant = omega (arith, ints, c.if-number-lt0.false) in
    (λ i. pair (lo i) (hi i))
    ∙ pair_above c.args.number c.args.q.now.quotient c.args.q.now.left high.result c.requires.is high.ensures.exact high.ensures.next above
