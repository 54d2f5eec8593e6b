use Rattle.std.proofs.Common.{◌*◌, ◌^◌, ◌≤◌, arith}
use Rattle.span_models.proofs.Fitting.{words_product, error_product}
use Rattle.span_models.proofs.operations.product_error.Goals as goal
use Rattle.span_models.proofs.operations.product_error.Goals.{After-error-4}

pub overflow_mul-by_first : goal.overflow_mul-by_first
overflow_mul-by_first c = words_product c.size.result c.error.result c.size.type_inv c.error.type_inv

pub overflow_mul-by_second : goal.overflow_mul-by_second
overflow_mul-by_second c = words_product c.size-2.result c.error-2.result c.size-2.type_inv c.error-2.type_inv

pub overflow_mul-by_both : goal.overflow_mul-by_both
overflow_mul-by_both c = words_product c.error-3.result c.error-4.result c.error-3.type_inv c.error-4.type_inv

by_first : (c : After-error-4) → c.size.result * c.error.result ≤ 10 * 2 ^ 120
by_first c = error_product c.size.result c.error.result c.size.ensures.small (rw c.error.ensures.equals c.error.ensures.small.error)

by_second : (c : After-error-4) → c.size-2.result * c.error-2.result ≤ 10 * 2 ^ 120
by_second c = error_product c.size-2.result c.error-2.result c.size-2.ensures.small (rw c.error-2.ensures.equals c.error-2.ensures.small.error)

by_both : (c : After-error-4) → c.error-3.result * c.error-4.result ≤ 10 * 2 ^ 120
by_both c =
    let e = c.error-3.ensures.equals in
    let s = c.error-3.ensures.small.error in
    error_product c.error-3.result c.error-4.result (omega (arith, e, s)) (rw c.error-4.ensures.equals c.error-4.ensures.small.error)

pub overflow_add-result : goal.overflow_add-result
overflow_add-result c =
    let a = by_first c in
    let b = by_second c in
    record { fits = omega (arith, a, b) }

pub overflow_add-result-2 : goal.overflow_add-result-2
overflow_add-result-2 c =
    let a = by_first c in
    let b = by_second c in
    let d = by_both c in
    record { fits = omega (arith, a, b, d) }

pub overflow_add-result-3 : goal.overflow_add-result-3
overflow_add-result-3 c =
    let made = (goal.at.overflow_add-result-3 c).After-error-4 in
    let a = by_first made in
    let b = by_second made in
    let d = by_both made in
    let o = c.omitted_size.ensures.small in
    record { fits = omega (arith, a, b, d, o) }
