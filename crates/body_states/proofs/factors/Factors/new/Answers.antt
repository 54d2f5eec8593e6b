use Rattle.std.proofs.Common.{rules, ◌∙◌, refl, FitsSigned, w64}
use Rattle.std.proofs.lemmas.Int.{to_z-of_z}
use mir.Syntax.{w16}
use Rattle.spec_intervals.specs.Interval.{from_decimal}
use Rattle.spec_bodies.specs.declared.factor.Factor.TheVariants.{MoonShare, Cosine, Sine}
use Rattle.spec_bodies.specs.Meanings.{factor_interval}
use Rattle.body_states.proofs.factors.Factors.new.Goals as goal

pub returns : goal.returns
unfolding from_decimal factor_interval
returns c MoonShare =
    let mant : FitsSigned w64 c.args.ratio.mant = search rules in
    let exp : FitsSigned w16 c.args.ratio.exp = search rules in
    rw (to_z-of_z w64 c.args.ratio.mant mant, to_z-of_z w16 c.args.ratio.exp exp) at c.moon_share_of_mass.ensures
returns c Cosine = c.from_decimal.ensures.equals ∙ refl
returns c Sine = c.from_decimal-2.ensures.equals ∙ refl
