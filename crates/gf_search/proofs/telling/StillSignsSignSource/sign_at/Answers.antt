use Rattle.std.proofs.Common.{◌≡◌, ◌∙◌, ap, sym, subst, w64, ℤ}
use Rattle.std.proofs.lemmas.Int.{to_z-of_z}
use mir.Val.{SFits}
use Rattle.spec_intervals.specs.Enclosure.{Enclosure}
use Rattle.spec_intervals.specs.Signs.{sign_of}
use Rattle.spec_bodies.specs.Views.{state_enclosure}
use Rattle.spec_sets.specs.Points.{point_of}
use Rattle.gf_search.proofs.telling.StillSignsSignSource.sign_at.Goals as goal

pub returns-in-Some : goal.returns-in-Some
returns-in-Some c =
    let signs = c.args.self.now in
    let point = point_of (state_enclosure signs.states.now) signs.formula.now in
    sym (subst (λ (z : ℤ). point z ≡ c.in-Some.sign) (to_z-of_z w64 c.args.t c.ranges.t) (c.in-Some.ensures point signs.told))

pub returns-in-None : goal.returns-in-None
returns-in-None c =
    let fits : SFits w64 c.args.t = c.ranges.t in
    c.sign.ensures ∙ ap (λ (e : Enclosure). sign_of e.range) (simp to_z-of_z at c.enclosure.ensures)
