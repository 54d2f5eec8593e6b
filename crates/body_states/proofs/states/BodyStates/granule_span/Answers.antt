use Rattle.std.proofs.Common.{◌≡◌, rules, ◌∙◌, ap, sym, FitsSigned, w64}
use Rattle.spec_ephemeris.specs.Ephemeris.{Granule}
use Rattle.spec_ephemeris.specs.Granules.{column_of, granule_at, granule_of}
use Rattle.std.proofs.lemmas.Int.{to_z-of_z}
use Rattle.spec_bodies.proofs.Columns.{three_components}
use Rattle.spec_bodies.proofs.Reading.{evaluable, from_start, upto_end, series_is}
use Rattle.body_states.proofs.states.BodyStates.granule_span.Goals as goal
use Rattle.body_states.proofs.states.BodyStates.granule_span.Goals.{After-granule}

-- the granule that is read is that of the first time, with as many coefficients as its column has
read : (c : After-granule) → (granule_of c.granule.result ≡ granule_at c.args.self.now.ephemeris c.args.number c.args.times.now.first) × (c.granule.result.n ≡ (column_of c.args.self.now.ephemeris c.args.number).coefs)
read c =
    let fa : FitsSigned w64 c.first.result = search rules in
    let sa = to_z-of_z w64 c.first.result fa ∙ c.first.ensures in
    let e = ap (λ v. v.ephemeris) c.self.view_is in
    (rw (sa, e) at c.granule.ensures.granule, rw e at c.granule.ensures.coefficients)

pub invariant_of-result : goal.invariant_of-result
invariant_of-result c =
    let both = read (goal.at.invariant_of-result c).After-granule in
    let g = c.granule.ensures in
    let a = c.args.times.now.first in
    let b = c.args.times.now.last in
    record {
      evaluable = evaluable c.granule.result c.args.number c.requires.usable.of_body g.few g.count g.bodies g.rounded g.duration g.start;
      axes = g.components ∙ three_components c.args.number c.requires.usable.of_body;
      from = from_start c.args.self.now a b c.requires.fits c.args.number c.requires.usable c.granule.result both.0 both.1 g.duration.0;
      order = c.requires.fits.ordered;
      upto = upto_end c.args.self.now a b c.requires.fits c.args.number c.requires.usable c.granule.result both.0 both.1 g.duration.0;
      seconds = c.requires.divider ∙ sym (ap (λ (g : Granule). g.duration) both.0);
    }

pub returns-clause-series : goal.returns-clause-series
returns-clause-series c =
    let both = read (goal.at.returns-clause-series c).After-granule in
    λ axis three. series_is c.args.self.now c.args.times.now.first c.args.times.now.last c.requires.fits c.args.number c.requires.usable c.granule.result both.0 both.1 c.granule.ensures.duration.0 axis
