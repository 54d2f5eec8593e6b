use Rattle.std.proofs.Common.{◌≡◌, ◌∙◌}
use Rattle.std.proofs.lemmas.Int.{to_z-of_z}
use Rattle.spec_motions.specs.Enclosures.{velocity_over, velocity_interval}
use Rattle.spec_motions.proofs.HeldChanges.{Holds-velocity}
use Rattle.spec_ephemeris.specs.Granules.{series_of}
use Rattle.cheby_enclose.proofs.SpanSeries.{IsSeries-within, IsSpan-within}
use Rattle.cheby_difference.proofs.velocities.velocity.Goals as goal

pub returns : goal.returns
returns c =
    let a = c.ranges.a in
    let b = c.ranges.b in
    let s = series_of c.args.g.now c.args.axis in
    let p = c.span_inputs-terms.ensures in
    let x = simp to_z-of_z at c.span_inputs-terms.ensures.arguments in
    let e : c.velocity_over_row.result ≡ velocity_interval s c.args.a c.args.b = c.velocity_over_row.ensures ∙ λ i. velocity_over (p.terms i) (x i) (p.divider i) in
    record { equals = e; holds = λ t from to. rw e (Holds-velocity s c.args.a c.args.b (IsSeries-within c.requires) (IsSpan-within c.requires) t from to) }
