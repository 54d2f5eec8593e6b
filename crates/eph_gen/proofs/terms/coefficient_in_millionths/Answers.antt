use Rattle.std.proofs.Common.{◌≤◌, ◌^◌, ℕ, pos, arith, lit<, FitsSigned, w64, ◌∙◌, ◌<ℤ◌}
use Rattle.std.specs.Prelude.{int_div}
use Rattle.std.proofs.Math.Nat.{pow-le-pow_right, one-le-pow}
use Rattle.std.proofs.lemmas.Int.{ints, fits_signed_from_abs, quot_fits, quot_is, to_z-of_z}
use Rattle.eph_gen.proofs.terms.coefficient_in_millionths.Goals as goal

fits : (degree : ℕ) → degree ≤ 31 → FitsSigned w64 (pos (4 ^ degree))
fits degree low = let bound : 4 ^ degree ≤ 4 ^ 31 = pow-le-pow_right {n = 4} (lit< tt) low in fits_signed_from_abs w64 (pos (4 ^ degree)) (omega (arith, bound))

positive : (degree : ℕ) → pos 0 <ℤ pos (4 ^ degree)
positive degree = let bound = one-le-pow degree 4 (lit< tt) in omega (arith, ints, bound)

pub pow-divisor-requires : goal.pow-divisor-requires
pow-divisor-requires c = fits c.args.term.degree (omega (arith, c.requires))

pub nonzero_div-result : goal.nonzero_div-result
nonzero_div-result c =
    let f : FitsSigned w64 c.scaled_draw.result = record { sfits = c.scaled_draw.type_inv } in
    let g : FitsSigned w64 c.pow-divisor.result = record { sfits = c.pow-divisor.type_inv } in
    let p : pos 0 <ℤ c.pow-divisor.result = rw c.pow-divisor.ensures (positive c.args.term.degree) in
    let b = one-le-pow c.args.term.degree 4 (lit< tt) in
    (rw c.pow-divisor.ensures (omega (arith, ints, b)), rw (to_z-of_z w64 c.scaled_draw.result f, to_z-of_z w64 c.pow-divisor.result g) (quot_fits w64 c.scaled_draw.result c.pow-divisor.result f p))

pub returns : goal.returns
returns c =
    let f : FitsSigned w64 c.scaled_draw.result = record { sfits = c.scaled_draw.type_inv } in
    let g : FitsSigned w64 c.pow-divisor.result = record { sfits = c.pow-divisor.type_inv } in
    let p : pos 0 <ℤ c.pow-divisor.result = rw c.pow-divisor.ensures (positive c.args.term.degree) in
    quot_is w64 c.scaled_draw.result c.pow-divisor.result f g (quot_fits w64 c.scaled_draw.result c.pow-divisor.result f p) ∙ (λ i. int_div (c.scaled_draw.ensures i) (c.pow-divisor.ensures i))
