use Rattle.std.proofs.Common.{rules, ◌≡◌, ◌∙◌, sym, FitsSigned, w64}
use Rattle.std.proofs.lemmas.Int.{to_z-of_z}
use Rattle.spec_ephemeris.specs.Granules.{column_of, granule_at, granule_of}
use Rattle.spec_bodies.proofs.Columns.{three_components}
use Rattle.spec_bodies.proofs.Reading.{evaluable, from_start, series_is, upto_end}
use Rattle.event_models.proofs.granules.column_granule.Goals as goal
use Rattle.event_models.proofs.granules.column_granule.Goals.{After-granule}

-- the granule that is read is that of the first time, with as many coefficients as its column has
read : (c : After-granule) → (granule_of c.granule.result ≡ granule_at c.args.states.now.ephemeris c.args.number c.args.times.now.first) × (c.granule.result.n ≡ (column_of c.args.states.now.ephemeris c.args.number).coefs)
read c =
    let f : FitsSigned w64 c.args.times.now.first = search rules in
    let kept = to_z-of_z w64 c.args.times.now.first f in
    (rw (kept, sym c.requires.same) at c.granule.ensures.granule, rw (sym c.requires.same) at c.granule.ensures.coefficients)

pub returns-clause-over : goal.returns-clause-over
returns-clause-over c =
    let both = read (goal.at.returns-clause-over c).After-granule in
    let g = c.granule.ensures in
    let a = c.args.times.now.first in
    let b = c.args.times.now.last in
    record {
      evaluable = evaluable c.granule.result c.args.number c.requires.usable.of_body g.few g.count g.bodies g.rounded g.duration g.start;
      axes = g.components ∙ three_components c.args.number c.requires.usable.of_body;
      from = from_start c.args.states.now a b c.requires.fits c.args.number c.requires.usable c.granule.result both.0 both.1 g.duration.0;
      upto = upto_end c.args.states.now a b c.requires.fits c.args.number c.requires.usable c.granule.result both.0 both.1 g.duration.0;
    }

pub returns-clause-series : goal.returns-clause-series
returns-clause-series c =
    let both = read (goal.at.returns-clause-series c).After-granule in
    λ axis. series_is c.args.states.now c.args.times.now.first c.args.times.now.last c.requires.fits c.args.number c.requires.usable c.granule.result both.0 both.1 c.granule.ensures.duration.0 axis
