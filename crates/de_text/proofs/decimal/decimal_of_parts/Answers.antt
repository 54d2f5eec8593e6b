use Rattle.std.proofs.Common.{◌≡◌, arith, ℤ, pos, ◌-ℤ◌, to_z, of_z, w16, w64, ap, ◌∙◌}
use Rattle.std.proofs.lemmas.Int.{ints}
use Rattle.de_text.proofs.Assembly.{read_zero, read_some}
use Rattle.de_text.proofs.decimal.decimal_of_parts.Goals as goal

pub returns-then-parts-eq0 : goal.returns-then-parts-eq0
returns-then-parts-eq0 c = λ n are shows. read_zero n _ are shows c.requires.near.mantissa c.requires.near.exponent c.if-parts-eq0.true

pub returns : goal.returns
returns c =
    let places = c.args.parts.now.places in
    let mant : to_z w64 (of_z w64 c.signed_number-mant.result) ≡ c.signed_number-mant.result = omega (arith, ints) in
    let exp : to_z w16 (of_z w16 (to_z w64 (of_z w64 (to_z w64 (of_z w64 c.signed_number.result) -ℤ to_z w64 places)))) ≡ c.signed_number.result -ℤ pos places =
    omega (arith, ints, c.signed_number.ensures.low, c.signed_number.ensures.high, c.requires.short.places) in
    λ n are shows.
    read_some n _ are shows c.requires.near.mantissa c.requires.near.exponent _ _ c.if-parts-eq0.false (mant ∙ c.signed_number-mant.ensures.value)
    (exp ∙ ap (λ (z : ℤ). z -ℤ pos places) c.signed_number.ensures.value)
