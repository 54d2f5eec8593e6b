use Rattle.std.proofs.Common.{◌∙◌, ◌^◌, ap, ◌+ℤ◌, w64}
use Rattle.std.proofs.lemmas.Int.{to_z-of_z}
use Rattle.spec_numbers.specs.Numbers.{floor_div}
use Rattle.span_models.proofs.TangentSteps.{products_kept, times_kept, products_fit, products_small}
use Rattle.span_models.proofs.tangents.next_slope.Goals as goal

pub returns : goal.returns
returns c =
    let k = c.requires.known in
    let first = times_kept c.args.line.now.centre c.args.known.now.slope c.requires.line.centre c.product_with_line.result c.product_with_line.ensures.small k.slope c.product_with_line.ensures.equals in
    let second = times_kept c.args.line.now.width c.args.known.now.value c.requires.line.width c.product_with_line-2.result c.product_with_line-2.ensures.small k.value c.product_with_line-2.ensures.equals in
    to_z-of_z w64 c.floor_shift.result (record { sfits = c.floor_shift.type_inv })
    ∙ c.floor_shift.ensures ∙ ap (λ z. floor_div z (2 ^ 56)) (products_kept c.product_with_line.result c.product_with_line-2.result c.product_with_line.ensures.small c.product_with_line-2.ensures.small ∙ λ i. first i +ℤ second i)

pub overflow_add-product_with_line : goal.overflow_add-product_with_line
overflow_add-product_with_line c = products_fit c.product_with_line.result c.product_with_line-2.result c.product_with_line.ensures.small c.product_with_line-2.ensures.small

pub floor_shift-requires : goal.floor_shift-requires
floor_shift-requires c = products_small c.product_with_line.result c.product_with_line-2.result c.product_with_line.ensures.small c.product_with_line-2.ensures.small
