use Rattle.std.proofs.Common.{◌≡◌, ◌<◌, ◌∙◌, arith, sym, w64}
use Rattle.std.proofs.lemmas.Int.{fits_signed_from_abs, to_z-of_z}
use mir.Val.{SFits}
use Rattle.spec_scalars.specs.Quads.{is_small, quad_scalar, small_quadratic}
use Rattle.spec_outcomes.specs.Scalars.{quadratic_of}
use Rattle.gf_uds.proofs.Rules.{is_sound}
use Rattle.gf_search.proofs.Asked.{taken}
use Rattle.gf_search.proofs.scalar_search.scalar_judge.Goals as goal

pub invariant_of-result : goal.invariant_of-result
invariant_of-result c =
    let s = c.new-scalar.result in
    let plan = c.args.ask.now.plan in
    let some : 0 < plan.width = omega (arith, c.requires.some_width) in
    record {
      some_width = some;
      sound = is_sound (quad_scalar s.law) s.first s.last plan c.law_holds.ensures s.from s.to s.low s.high some;
    }

pub returns-clause-law : goal.returns-clause-law
returns-clause-law c =
    let k = quadratic_of c.args.ask.now in
    let small = c.requires.small in
    let p : SFits w64 k.p = fits_signed_from_abs w64 k.p (omega (arith, small.small_p)) in
    let q : SFits w64 k.q = fits_signed_from_abs w64 k.q (omega (arith, small.small_q)) in
    let r : SFits w64 k.r = fits_signed_from_abs w64 k.r (omega (arith, small.small_r)) in
    let made : c.new.result ≡ small_quadratic k.p k.q k.r = simp to_z-of_z at c.new.ensures in
    c.new-scalar.ensures.law ∙ taken (is_small k) k c.unwrap-quad.result (sym made ∙ c.unwrap-quad.ensures)
