use Rattle.std.proofs.Common.{w64}
use Rattle.std.proofs.lemmas.Int.{to_z-of_z}
use mir.Val.{SFits}
use Rattle.spec_expressions.proofs.Induction.{IsEnclosure-of}
use Rattle.spec_expressions.specs.Term.{exact_of}
use Rattle.spec_intervals.specs.Enclosure.{IsEnclosure}
use Rattle.event_expr.proofs.enclosing.enclose.Goals as goal

-- the states return it over the times that were asked for
pub returns-clause-equals : goal.returns-clause-equals
returns-clause-equals g c =
    let a : SFits w64 c.args.a = c.ranges.a in
    let b : SFits w64 c.args.b = c.ranges.b in
    simp to_z-of_z at c.enclosure.ensures

-- it holds what the formula is, since what they return for coordinates does
whole : (g : _) (c : goal.After-enclosure g) → IsEnclosure (exact_of (g.S.States.exact c.args.states.now) c.args.f.now) c.args.a c.args.b c.enclosure.result
whole g c =
    let a : SFits w64 c.args.a = c.ranges.a in
    let b : SFits w64 c.args.b = c.ranges.b in
    let laws = g.met.S.States in
    let fits = c.requires.fits in
    let is = simp to_z-of_z at c.enclosure.ensures in
    rw is (IsEnclosure-of _ _ _ (λ leaf h. laws.numbers c.args.states.now leaf c.args.a c.args.b h fits) (laws.spans c.args.states.now c.args.a c.args.b fits).ordered _
    (λ leaf h. laws.holds c.args.states.now leaf c.args.a c.args.b h fits) c.args.f.now (rw c.expr-expr.ensures.whole at c.expr-expr.ensures.formula).leaves)

pub returns-clause-mid : goal.returns-clause-mid
returns-clause-mid g c = (whole g c).mid

pub returns-clause-range : goal.returns-clause-range
returns-clause-range g c = (whole g c).range

pub returns-clause-step : goal.returns-clause-step
returns-clause-step g c = (whole g c).step
