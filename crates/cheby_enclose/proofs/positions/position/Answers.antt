use Rattle.std.proofs.Common.{◌≡◌, ◌∙◌, ℤ, subst, arith}
use Rattle.spec_numbers.proofs.Order.{lin}
use Rattle.std.proofs.lemmas.Int.{to_z-of_z}
use Rattle.spec_motions.specs.Enclosures.{IsTight, position_over, position_interval, arguments}
use Rattle.spec_motions.proofs.HeldSpans.{Holds-position}
use Rattle.spec_motions.proofs.Tight.{IsTight-position}
use Rattle.spec_ephemeris.specs.Granules.{series_of}
use Rattle.spec_motions.proofs.GranuleSeries.{IsSpan-of}
use Rattle.cheby_enclose.proofs.SpanSeries.{IsSeries-within, IsSpan-within}
use Rattle.cheby_enclose.proofs.positions.position.Goals as goal
use Rattle.cheby_enclose.proofs.positions.position.Goals.{After-position_over_row}

equals : (c : After-position_over_row) → c.position_over_row.result ≡ position_interval (series_of c.args.g.now c.args.axis) c.args.a c.args.b
equals c =
    let a = c.ranges.a in
    let b = c.ranges.b in
    let x : c.arguments-x.result ≡ arguments (series_of c.args.g.now c.args.axis) c.args.a c.args.b = simp to_z-of_z at (c.arguments-x.ensures.equals c.args.axis) in
    let t = c.of-terms.ensures.terms in
    c.position_over_row.ensures ∙ λ i. position_over (t i) (x i)

pub returns-clause-equals : goal.returns-clause-equals
returns-clause-equals c = equals c

pub returns-clause-holds : goal.returns-clause-holds
returns-clause-holds c t from to = rw (equals c) (Holds-position (series_of c.args.g.now c.args.axis) c.args.a c.args.b t (IsSeries-within c.requires) (IsSpan-within c.requires) from to)

pub returns-clause-tight : goal.returns-clause-tight
returns-clause-tight c same =
    let is = IsSeries-within c.requires in
    let span = IsSpan-of c.args.g.now c.requires.granule c.args.axis c.requires.axis c.args.a c.args.a c.requires.from (omega (arith, lin)) (let u = c.requires.upto in omega (arith, lin, same)) in
    let t = IsTight-position (series_of c.args.g.now c.args.axis) c.args.a is span in
    rw (equals c) (subst (λ (z : ℤ). IsTight (series_of c.args.g.now c.args.axis).coefficients (position_interval (series_of c.args.g.now c.args.axis) c.args.a z)) same t)
