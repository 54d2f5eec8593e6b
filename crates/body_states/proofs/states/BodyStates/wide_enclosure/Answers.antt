use Rattle.std.proofs.Common.{◌∙◌, ap, sym, w64}
use Rattle.std.proofs.lemmas.Int.{to_z-of_z}
use Rattle.spec_steps.specs.ColumnTerms.{of_term, sight_of}
use Rattle.spec_steps.proofs.Meanings.{term_enclosed}
use Rattle.body_states.specs.Moments.{Moment, meant_in}
use Rattle.body_states.proofs.states.BodyStates.wide_enclosure.Goals as goal

pub at-moment-requires : goal.at-moment-requires
at-moment-requires c = rw (to_z-of_z w64 c.args.a c.ranges.a, to_z-of_z w64 c.args.b c.ranges.b) c.requires

pub formula-requires-clause-sight : goal.formula-requires-clause-sight
formula-requires-clause-sight c = ap (λ (m : Moment). sight_of m.view) c.at-moment.ensures ∙ sym c.coordinates.ensures

pub returns : goal.returns
returns c =
    let e = c.args.f.now in
    let moment = rw (to_z-of_z w64 c.args.a c.ranges.a, to_z-of_z w64 c.args.b c.ranges.b) at c.at-moment.ensures in
    (c.formula.ensures ∙ λ i. meant_in (moment i) (of_term (c.coordinates.ensures i) e))
    ∙ term_enclosed c.args.self.now c.args.a c.args.b e
