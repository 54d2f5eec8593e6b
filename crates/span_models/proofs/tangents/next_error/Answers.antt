use Rattle.std.proofs.Common.{◌≡◌, ◌∙◌, ◌+◌, ◌*◌, ◌/◌, ◌^◌, arith, ap, sym, unsigned_abs, ◌*ℤ◌, w64}
use Rattle.std.proofs.lemmas.Int.{ints, to_z-of_z, unsigned_abs-mul}
use Rattle.span_models.proofs.tangents.next_error.Goals as goal

pub returns : goal.returns
returns c =
    let error = c.args.known.now.error in
    let w = c.args.line.now.width in
    let s = c.args.known.now.slope in
    let few = c.requires.line.width in
    let low = c.requires.known.slope in
    let own = c.size_product-own.ensures.equals ∙ ap (λ n. n * error) c.line_size.ensures.equals in
    let width : c.unsigned_abs.result ≡ unsigned_abs w = c.unsigned_abs.ensures.value ∙ ap unsigned_abs (to_z-of_z w64 w (omega (arith, ints, few))) in
    let slope : c.unsigned_abs-2.result ≡ unsigned_abs s = c.unsigned_abs-2.ensures.value ∙ ap unsigned_abs (to_z-of_z w64 s (omega (arith, ints, low))) in
    let beside : c.size_product-beside.result ≡ unsigned_abs (w *ℤ s) = c.size_product-beside.ensures.equals ∙ (λ i. width i * slope i) ∙ sym (unsigned_abs-mul w s) in
    λ i. (own i + c.tangent_change.ensures i + 2 * error + beside i) / 2 ^ 56 + 3
