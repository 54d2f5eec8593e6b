use Rattle.std.proofs.Common.{ap, ◌∙◌, w64}
use Rattle.std.proofs.lemmas.Int.{to_z-of_z}
use mir.Val.{SFits}
use Rattle.spec_intervals.specs.Enclosure.{Enclosure}
use Rattle.spec_intervals.specs.Signs.{sign_of}
use Rattle.gf_sets.proofs.formula_signs.FormulaSignsSignSource.sign_at.Goals as goal

pub returns : goal.returns
returns g c =
    let fits : SFits w64 c.args.t = c.ranges.t in
    c.sign.ensures ∙ ap (λ (e : Enclosure). sign_of e.range) (simp to_z-of_z at c.enclosure.ensures)
