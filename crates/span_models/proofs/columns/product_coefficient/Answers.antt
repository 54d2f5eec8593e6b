use Rattle.std.proofs.Common.{◌≡◌, ◌∙◌, ◌-◌, ◌<◌, arith, ap, suc, get_or, pos, ◌*ℤ◌}
use Rattle.spec_models.specs.Models.{products_upto}
use Rattle.span_models.specs.Sizes.{terms}
use Rattle.span_models.proofs.Numbers.{number_kept}
use Rattle.span_models.proofs.ProductSteps.{sum_small, sum_more}
use Rattle.span_models.proofs.columns.product_coefficient.Goals as goal

pub loop-i-preserved : goal.loop-i-preserved
loop-i-preserved c =
    let below : c.loop-i.i < terms = (let t = c.loop-i-test.true in let p = c.requires.place in omega (arith, t, p)) in
    let beside : c.args.k - c.loop-i.i < terms = (let p = c.requires.place in omega (arith, p)) in
    let made : c.coefficient_product-sum.result ≡ get_or c.args.a.now c.loop-i.i (pos 0) *ℤ get_or c.args.b.now (c.args.k - c.loop-i.i) (pos 0) = rw (number_kept c.args.a.now c.loop-i.i c.requires.first below, number_kept c.args.b.now (c.args.k - c.loop-i.i) c.requires.second beside) at c.coefficient_product-sum.ensures.equals in
    record {
      sum = sum_more _ c.coefficient_product-sum.result c.loop-i.i below c.loop-i.invariant.size c.coefficient_product-sum.ensures.small c.args.k c.args.a.now c.args.b.now c.loop-i.invariant.sum made;
      size = sum_small _ c.coefficient_product-sum.result c.loop-i.i below c.loop-i.invariant.size c.coefficient_product-sum.ensures.small;
    }

pub returns-clause-equals : goal.returns-clause-equals
returns-clause-equals c =
    let e : c.loop-i.i ≡ suc c.args.k = (let t = c.loop-i-test.false in let p = c.loop-i.auto.i-end in omega (arith, t, p)) in
    c.loop-i.invariant.sum ∙ ap (λ n. products_upto n c.args.k c.args.a.now c.args.b.now) e
