use Rattle.std.proofs.Common.{◌∙◌, ap, sym}
use Rattle.spec_intervals.specs.Enclosure.{Enclosure}
use Rattle.spec_ephemeris.specs.Granules.{series_at}
use Rattle.spec_bodies.specs.Views.{series_enclosure}
use Rattle.spec_steps.specs.ColumnTerms.{column}
use Rattle.spec_steps.proofs.Parts.{column_seen, seen_readable}
use Rattle.body_states.proofs.Alone.{alone}
use Rattle.body_states.proofs.points.SingleTimeArithmetic.column.Goals as goal

pub column_enclosure-requires : goal.column_enclosure-requires
column_enclosure-requires c =
    let s = c.args.self.now in
    let readable = seen_readable s.states.now c.args.number c.args.axis c.requires.ready.fits.view (column_seen _ c.args.quantity c.args.number c.args.axis c.requires.part) in
    record { fits = c.requires.ready.fits; entries = c.written_entries.ensures; usable = readable.usable; axis = readable.along }

pub returns : goal.returns
returns c =
    let s = c.args.self.now in
    let t = s.times.now.first in
    ap (λ (e : Enclosure). e.mid) (
    c.column_enclosure.ensures
    ∙ (λ i. series_enclosure c.args.quantity t (c.requires.ready.alone i) (series_at s.states.now.ephemeris c.args.number c.args.axis t))
    ∙ sym (alone s.states.now t (column c.args.quantity c.args.number c.args.axis)))
