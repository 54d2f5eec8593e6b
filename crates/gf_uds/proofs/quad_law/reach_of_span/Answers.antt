use Rattle.std.proofs.Common.{◌≡◌, ◌∙◌, ◌-ℤ◌, pos, arith}
use Rattle.std.specs.Int.{int_max, int_min}
use Rattle.std.proofs.lemmas.Int.{fits_signed_from_abs, ints, to_z-of_z}
use mir.Syntax.{w128}
use mir.Val.{SFits}
use Rattle.spec_scalars.specs.Quads.{quad_high, quad_low, quad_step}
use Rattle.gf_uds.proofs.quad_law.reach_of_span.Goals as goal

pub returns : goal.returns
returns c =
    let k = c.args.quad.now in
    let a = c.ranges.a in
    let b = c.ranges.b in
    let before : SFits w128 (c.args.b -ℤ pos 1) = fits_signed_from_abs w128 (c.args.b -ℤ pos 1) (omega (arith, ints, c.requires.last)) in
    let f1 : SFits w128 c.step_at-first.result = record { sfits = c.step_at-first.type_inv } in
    let f2 : SFits w128 c.step_at-last.result = record { sfits = c.step_at-last.type_inv } in
    let f3 : SFits w128 c.bound_over.result = record { sfits = c.bound_over.type_inv } in
    let f4 : SFits w128 c.bound_over-2.result = record { sfits = c.bound_over-2.type_inv } in
    let f5 : SFits w128 c.min.result = record { sfits = c.min.type_inv } in
    let f6 : SFits w128 c.max.result = record { sfits = c.max.type_inv } in
    let low : c.bound_over.result ≡ quad_low k c.args.a c.args.b = simp to_z-of_z at c.bound_over.ensures in
    let high : c.bound_over-2.result ≡ quad_high k c.args.a c.args.b = simp to_z-of_z at c.bound_over-2.ensures in
    let first : c.step_at-first.result ≡ quad_step k c.args.a = simp to_z-of_z at c.step_at-first.ensures in
    let last : c.step_at-last.result ≡ quad_step k (c.args.b -ℤ pos 1) = simp to_z-of_z at c.step_at-last.ensures in
    let lesser : c.min.result ≡ int_min c.step_at-first.result c.step_at-last.result = simp to_z-of_z at c.min.ensures.value in
    let greater : c.max.result ≡ int_max c.step_at-first.result c.step_at-last.result = simp to_z-of_z at c.max.ensures.value in
    let step_lo = lesser ∙ (λ i. int_min (first i) (last i)) in
    let step_hi = greater ∙ (λ i. int_max (first i) (last i)) in
    rw c.requires.later (simp to_z-of_z (λ i. record { lo = low i; hi = high i; step_lo = step_lo i; step_hi = step_hi i }))
