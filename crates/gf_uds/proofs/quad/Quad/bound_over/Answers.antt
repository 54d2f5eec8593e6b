use Rattle.std.proofs.Common.{◌≡◌, ◌+ℤ◌, ◌*ℤ◌, arith}
use Rattle.std.proofs.lemmas.Int.{fits_signed_from_abs, to_z-of_z}
use mir.Syntax.{w128}
use mir.Val.{SFits}
use Rattle.spec_scalars.specs.Quads.{greatest_square, least_square}
use Rattle.gf_uds.specs.Bounds.{outer}
use Rattle.gf_uds.proofs.Sums.{sums_are}
use Rattle.gf_uds.proofs.quad.Quad.bound_over.Goals as goal

pub returns : goal.returns
returns c =
    let a = c.ranges.a in
    let b = c.ranges.b in
    let small = c.coefficients-p.ensures.small in
    let p : SFits w128 c.coefficients-p.result.0 = rw c.coefficients-p.ensures.p (fits_signed_from_abs w128 c.args.self.now.p (omega (arith, small.small_p))) in
    let q : SFits w128 c.coefficients-p.result.1 = rw c.coefficients-p.ensures.q (fits_signed_from_abs w128 c.args.self.now.q (omega (arith, small.small_q))) in
    let r : SFits w128 c.coefficients-p.result.2 = rw c.coefficients-p.ensures.r (fits_signed_from_abs w128 c.args.self.now.r (omega (arith, small.small_r))) in
    let f1 : SFits w128 c.min_square_between.result = record { sfits = c.min_square_between.type_inv } in
    let f2 : SFits w128 c.max_square_between.result = record { sfits = c.max_square_between.type_inv } in
    let f3 : SFits w128 c.product_bound-square.result = record { sfits = c.product_bound-square.type_inv } in
    let f4 : SFits w128 c.product_bound.result = record { sfits = c.product_bound.type_inv } in
    let f5 : SFits w128 c.sum.result = record { sfits = c.sum.type_inv } in
    let f6 : SFits w128 c.sum-2.result = record { sfits = c.sum-2.type_inv } in
    let least : c.min_square_between.result ≡ least_square c.args.a c.args.b = simp to_z-of_z at c.min_square_between.ensures.value in
    let greatest : c.max_square_between.result ≡ greatest_square c.args.a c.args.b = simp to_z-of_z at c.max_square_between.ensures.value in
    let square : c.product_bound-square.result ≡ outer c.args.bound (c.coefficients-p.result.0 *ℤ c.min_square_between.result) (c.coefficients-p.result.0 *ℤ c.max_square_between.result) = simp to_z-of_z at c.product_bound-square.ensures.value in
    let line : c.product_bound.result ≡ outer c.args.bound (c.coefficients-p.result.1 *ℤ c.args.a) (c.coefficients-p.result.1 *ℤ c.args.b) = simp to_z-of_z at c.product_bound.ensures.value in
    let both : c.sum.result ≡ c.product_bound-square.result +ℤ c.product_bound.result = simp to_z-of_z at c.sum.ensures.value in
    let all : c.sum-2.result ≡ c.sum.result +ℤ c.coefficients-p.result.2 = simp to_z-of_z at c.sum-2.ensures.value in
    simp to_z-of_z (sums_are (outer c.args.bound) c.args.a c.args.b c.coefficients-p.ensures.p c.coefficients-p.ensures.q c.coefficients-p.ensures.r least greatest square line both all)
