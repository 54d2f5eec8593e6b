use Rattle.std.proofs.Common.{◌≡◌, ◌∙◌, ◌<◌, arith, ap, get_or, pos, ◌*ℤ◌, length, length-set, to_z, of_z, w64}
use Rattle.std.proofs.lemmas.Int.{to_z-of_z}
use mir.Syntax.{w128}
use mir.Val.{SFits}
use Rattle.span_models.specs.Sizes.{size_limit}
use Rattle.span_models.proofs.Filled.{one_more}
use Rattle.span_models.proofs.Numbers.{number_kept, number_small}
use Rattle.span_models.proofs.constants.coefficient_multiples.Goals as goal

pub coefficient_product-requires-clause-a_small : goal.coefficient_product-requires-clause-a_small
coefficient_product-requires-clause-a_small c = rw (to_z-of_z w64 c.args.first c.ranges.first) c.requires.first

pub coefficient_product-requires-clause-b_small : goal.coefficient_product-requires-clause-b_small
coefficient_product-requires-clause-b_small c = rw (number_kept c.args.a.now c.loop-i.i c.requires.small c.loop-i-test.true) (number_small size_limit c.args.a.now c.loop-i.i c.requires.small c.loop-i-test.true)

pub loop-i-preserved : goal.loop-i-preserved
loop-i-preserved c =
    let t = c.loop-i-test.true in
    let count = c.loop-i.invariant.count in
    let fits : SFits w128 c.coefficient_product.result = record { sfits = c.coefficient_product.type_inv } in
    let below : c.loop-i.i < length c.loop-i.products = omega (arith, t, count) in
    record {
      count = length-set _ _ _ ∙ count;
      numbers = one_more (λ j z. z ≡ to_z w64 (of_z w64 c.args.first) *ℤ get_or c.args.a.now j (pos 0)) w128 _ _ _ fits below (c.coefficient_product.ensures.equals ∙ ap (λ y. to_z w64 (of_z w64 c.args.first) *ℤ y) (number_kept c.args.a.now c.loop-i.i c.requires.small t)) c.loop-i.invariant.numbers;
    }

pub returns-clause-products : goal.returns-clause-products
returns-clause-products c k below =
    let t = c.loop-i-test.false in
    c.loop-i.invariant.numbers k (omega (arith, t, below)) ∙ ap (λ y. y *ℤ get_or c.args.a.now k (pos 0)) (to_z-of_z w64 c.args.first c.ranges.first)
