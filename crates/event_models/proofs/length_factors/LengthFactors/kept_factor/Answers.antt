use Rattle.std.proofs.Common.{rules, ◌≡◌, ◌∙◌, ap, sym, subst, unsigned_abs, FitsSigned, to_z, w64}
use Rattle.std.proofs.lemmas.Int.{to_z-of_z}
use Rattle.event_models.specs.Factors.{IsFactor}
use Rattle.event_models.proofs.length_factors.LengthFactors.kept_factor.Goals as goal

pub returns-in-Some : goal.returns-in-Some
returns-in-Some c =
    let own : FitsSigned w64 c.in-Some.kept.seconds = search rules in
    let same : c.in-Some.kept.seconds ≡ c.args.seconds =
    sym (to_z-of_z w64 c.in-Some.kept.seconds own) ∙ ap (to_z w64) c.if-kept-seconds.true ∙ to_z-of_z w64 c.args.seconds c.ranges.seconds in
    subst (λ z. IsFactor (unsigned_abs z) c.in-Some.kept.factor) same c.in-Some.kept.is
