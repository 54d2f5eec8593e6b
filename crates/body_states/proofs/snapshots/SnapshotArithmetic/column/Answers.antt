use Rattle.std.proofs.Common.{ap, subst}
use Rattle.spec_bodies.specs.Views.{Fits}
use Rattle.spec_steps.proofs.Parts.{column_seen, seen_readable}
use Rattle.body_states.specs.Moments.{Moment}
use Rattle.body_states.proofs.snapshots.SnapshotArithmetic.column.Goals as goal

pub column_enclosure-requires : goal.column_enclosure-requires
column_enclosure-requires c =
    let view = ap (λ (m : Moment). m.view) c.self.view_is in
    let first = ap (λ (m : Moment). m.first) c.self.view_is in
    let last = ap (λ (m : Moment). m.last) c.self.view_is in
    let fits = subst (λ (m : Moment). Fits m.view m.first m.last) c.self.view_is c.self.invariant.2 in
    let readable = seen_readable c.args.self.now.view c.args.number c.args.axis fits.view (column_seen _ c.args.quantity c.args.number c.args.axis c.requires.part) in
    rw (view, first, last) (record { fits = fits; entries = c.written_entries.ensures.0; usable = readable.usable; axis = readable.along })

pub returns : goal.returns
returns c =
    let view = ap (λ (m : Moment). m.view) c.self.view_is in
    let first = ap (λ (m : Moment). m.first) c.self.view_is in
    let last = ap (λ (m : Moment). m.last) c.self.view_is in
    rw (view, first, last) at c.column_enclosure.ensures
