use Rattle.std.proofs.Common.{◌≡◌, ◌∙◌, true}
use Rattle.std.proofs.lemmas.Int.{to_z-of_z}
use lib.Signed.{lt_z}
use Rattle.spec_motions.specs.Enclosures.{position_step_over, position_step_interval}
use Rattle.spec_motions.proofs.HeldChanges.{Holds-position_step}
use Rattle.spec_ephemeris.specs.Granules.{series_of}
use Rattle.cheby_enclose.proofs.SpanSeries.{IsSeries-within, IsSpan-within}
use Rattle.cheby_difference.proofs.positions.position_step.Goals as goal
use Rattle.cheby_difference.proofs.positions.position_step.Goals.{After-position_step_over_row}

equals : (c : After-position_step_over_row) → c.position_step_over_row.result ≡ position_step_interval (series_of c.args.g.now c.args.axis) c.args.a c.args.b
equals c =
    let a = c.ranges.a in
    let b = c.ranges.b in
    let p = c.span_inputs-terms.ensures in
    let x = simp to_z-of_z at c.span_inputs-terms.ensures.arguments in
    let w : lt_z c.args.a c.args.b ≡ true = simp to_z-of_z at c.if-a-b.true in
    rw w (c.position_step_over_row.ensures ∙ λ i. position_step_over (p.terms i) (x i) (p.divider i))

pub returns-then-a-b-clause-equals : goal.returns-then-a-b-clause-equals
returns-then-a-b-clause-equals c = equals c

pub returns-then-a-b-clause-holds : goal.returns-then-a-b-clause-holds
returns-then-a-b-clause-holds c t from to = rw (equals c) (Holds-position_step (series_of c.args.g.now c.args.axis) c.args.a c.args.b (IsSeries-within c.requires) (IsSpan-within c.requires) t from to)
