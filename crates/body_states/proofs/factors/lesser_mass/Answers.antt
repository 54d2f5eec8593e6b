use Rattle.std.proofs.Common.{arith, ◌≡◌, ◌∙◌, ap, ◌^◌, ◌≤◌, ◌<ℤ◌, pos, to_z, of_z, unsigned_abs, true}
use Rattle.std.proofs.lemmas.Int.{ints, to_z-of_z}
use mir.Syntax.{w16}
use lib.Signed.{lt_z}
use Rattle.spec_numbers.proofs.Order.{lin}
use borrow.Author.Differences.{down}
use Rattle.body_states.proofs.Masses.{some_tens, few_tens, down_is}
use Rattle.body_states.proofs.factors.lesser_mass.Goals as goal

pub returns-then-exp-lt0-clause-some : goal.returns-then-exp-lt0-clause-some
returns-then-exp-lt0-clause-some c = rw c.pow.ensures (some_tens _)

pub returns-then-exp-lt0-clause-few : goal.returns-then-exp-lt0-clause-few
returns-then-exp-lt0-clause-few c =
    let same : to_z w16 (of_z w16 c.args.exp) ≡ c.args.exp = to_z-of_z w16 c.args.exp c.ranges.exp in
    let tested : lt_z c.args.exp (pos 0) ≡ true = rw same at c.if-exp-lt0.true in
    let below : c.args.exp <ℤ pos 0 = omega (arith, lin, tested) in
    let small : unsigned_abs c.args.mant ≤ 2 ^ 63 = omega (arith, ints, c.ranges.mant) in
    let few = few_tens c.args.mant c.args.exp c.requires.least small below in
    let shown : c.pow.result ≡ 10 ^ down c.args.exp = c.pow.ensures ∙ ap (λ k. 10 ^ k) (c.into.ensures ∙ c.unsigned_abs.ensures.value ∙ (ap unsigned_abs same ∙ down_is c.args.exp below)) in
    rw shown few
