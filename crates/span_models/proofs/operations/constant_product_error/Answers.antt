use Rattle.std.proofs.Common.{◌≡◌, ◌∙◌, ◌+◌, ◌*◌, ◌^◌, ◌≤◌, arith, ap, unsigned_abs, w64}
use Rattle.std.proofs.lemmas.Int.{to_z-of_z}
use Rattle.span_models.proofs.Fitting.{words_product, error_product}
use Rattle.span_models.proofs.operations.constant_product_error.Goals as goal
use Rattle.span_models.proofs.operations.constant_product_error.Goals.{After-error-2}

pub overflow_mul-by_first : goal.overflow_mul-by_first
overflow_mul-by_first c = words_product c.unsigned_abs.result c.error.result c.unsigned_abs.type_inv c.error.type_inv

pub overflow_mul-by_second : goal.overflow_mul-by_second
overflow_mul-by_second c = words_product c.size.result c.args.error c.size.type_inv c.ranges.error.fits

pub overflow_mul-by_both : goal.overflow_mul-by_both
overflow_mul-by_both c = words_product c.args.error c.error-2.result c.ranges.error.fits c.error-2.type_inv

first_is : (c : After-error-2) → c.unsigned_abs.result ≡ unsigned_abs c.args.first
first_is c = c.unsigned_abs.ensures.value ∙ ap unsigned_abs (to_z-of_z w64 c.args.first c.ranges.first)

by_first : (c : After-error-2) → c.unsigned_abs.result * c.error.result ≤ 10 * 2 ^ 120
by_first c =
    let a = first_is c in
    let small = c.requires.first in
    error_product c.unsigned_abs.result c.error.result (omega (arith, a, small)) (rw c.error.ensures.equals c.error.ensures.small.error)

by_second : (c : After-error-2) → c.size.result * c.args.error ≤ 10 * 2 ^ 120
by_second c = error_product c.size.result c.args.error c.size.ensures.small c.requires.error

by_both : (c : After-error-2) → c.args.error * c.error-2.result ≤ 10 * 2 ^ 120
by_both c =
    let small = c.requires.error in
    error_product c.args.error c.error-2.result (omega (arith, small)) (rw c.error-2.ensures.equals c.error-2.ensures.small.error)

pub overflow_add-result : goal.overflow_add-result
overflow_add-result c =
    let a = by_first c in
    let b = by_second c in
    record { fits = omega (arith, a, b) }

pub overflow_add-result-2 : goal.overflow_add-result-2
overflow_add-result-2 c =
    let a = by_first c in
    let b = by_second c in
    let d = by_both c in
    record { fits = omega (arith, a, b, d) }

pub returns : goal.returns
returns c =
    let a = first_is c in
    let s = c.size.ensures.equals in
    let e = c.error.ensures.equals in
    let f = c.error-2.ensures.equals in
    λ i. a i * e i + s i * c.args.error + c.args.error * f i
