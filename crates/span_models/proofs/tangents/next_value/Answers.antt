use Rattle.std.proofs.Common.{◌≡◌, ◌∙◌, ◌^◌, ◌≤◌, arith, ap, unsigned_abs, ◌+ℤ◌, ◌*ℤ◌}
use Rattle.spec_numbers.specs.Numbers.{floor_div}
use Rattle.span_models.proofs.TangentSteps.{part_small, times_kept, value_fits, value_kept}
use Rattle.span_models.proofs.tangents.next_value.Goals as goal
use Rattle.span_models.proofs.tangents.next_value.Goals.{After-floor_shift-part}

part_is : (c : After-floor_shift-part) → c.floor_shift-part.result ≡ floor_div (c.args.line.now.centre *ℤ c.args.known.now.value) (2 ^ 56)
part_is c =
    c.floor_shift-part.ensures ∙ ap (λ z. floor_div z (2 ^ 56)) (times_kept c.args.line.now.centre c.args.known.now.value c.requires.line.centre c.product_with_line.result c.product_with_line.ensures.small c.requires.known.value c.product_with_line.ensures.equals)

few : (c : After-floor_shift-part) → unsigned_abs c.floor_shift-part.result ≤ 2 ^ 62
few c =
    let v = c.requires.known.value in
    let p = part_small c.args.line.now.centre c.args.known.now.value c.requires.line.centre in
    rw (part_is c) (omega (arith, p, v))

pub overflow_add-result : goal.overflow_add-result
overflow_add-result c =
    let d = (goal.at.overflow_add-result c).After-floor_shift-part in
    value_fits c.args.a c.floor_shift-part.result c.requires.small (few d)

pub returns : goal.returns
returns c =
    let d = (goal.at.returns c).After-floor_shift-part in
    value_kept c.args.a c.floor_shift-part.result c.requires.small (few d) ∙ ap (λ z. c.args.a +ℤ z) (part_is d)
