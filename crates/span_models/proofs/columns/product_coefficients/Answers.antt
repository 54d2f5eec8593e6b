use Rattle.std.proofs.Common.{◌≡◌, ◌∙◌, ◌*◌, ◌^◌, ◌<◌, ◌≤◌, arith, length, length-set, unsigned_abs}
use mir.Syntax.{w128}
use mir.Val.{SFits}
use Rattle.span_models.specs.Sizes.{terms}
use Rattle.span_models.specs.Columns.{column}
use Rattle.span_models.proofs.Filled.{one_more}
use Rattle.span_models.proofs.Numbers.{are_within}
use Rattle.span_models.proofs.columns.product_coefficients.Goals as goal

pub loop-k-preserved : goal.loop-k-preserved
loop-k-preserved c =
    let t = c.loop-k-test.true in
    let count = c.loop-k.invariant.count in
    let fits : SFits w128 c.product_coefficient.result = record { sfits = c.product_coefficient.type_inv } in
    let below : c.loop-k.k < length c.loop-k.sums = omega (arith, t, count) in
    record {
      count = length-set _ _ _ ∙ count;
      columns = one_more (λ k z. z ≡ column c.args.a.now c.args.b.now k) w128 _ _ _ fits below c.product_coefficient.ensures.equals c.loop-k.invariant.columns;
      small = one_more (λ k z. unsigned_abs z ≤ terms * 2 ^ 120) w128 _ _ _ fits below c.product_coefficient.ensures.small c.loop-k.invariant.small;
    }

pub returns-clause-columns : goal.returns-clause-columns
returns-clause-columns c k below = let t = c.loop-k-test.false in c.loop-k.invariant.columns k (omega (arith, t, below))

pub returns-clause-small : goal.returns-clause-small
returns-clause-small c =
    let t = c.loop-k-test.false in
    are_within (terms * 2 ^ 120) _ c.loop-k.invariant.count (λ i below. c.loop-k.invariant.small i (omega (arith, t, below)))
