use Rattle.std.proofs.Common.{◌∙◌, ap, sym, w64}
use Rattle.std.proofs.lemmas.Int.{to_z-of_z}
use Rattle.spec_expressions.specs.Term.{velocity, leaf}
use Rattle.spec_steps.specs.ColumnTerms.{of_leaf, sight_of}
use Rattle.spec_steps.proofs.Meanings.{term_enclosed}
use Rattle.body_states.specs.Moments.{Moment, meant_in}
use Rattle.body_states.proofs.answers.BodyStatesStates.vel.Goals as goal

pub at-moment-requires : goal.at-moment-requires
at-moment-requires c = rw (to_z-of_z w64 c.args.a c.ranges.a, to_z-of_z w64 c.args.b c.ranges.b) c.requires.fits

pub velocity-requires-clause-sight : goal.velocity-requires-clause-sight
velocity-requires-clause-sight c = ap (λ (m : Moment). sight_of m.view) c.at-moment.ensures ∙ sym c.coordinates.ensures

pub returns : goal.returns
returns c =
    let own = velocity c.args.target c.args.axis in
    let moment = rw (to_z-of_z w64 c.args.a c.ranges.a, to_z-of_z w64 c.args.b c.ranges.b) at c.at-moment.ensures in
    (c.velocity.ensures ∙ λ i. meant_in (moment i) (of_leaf (c.coordinates.ensures i) own))
    ∙ term_enclosed c.args.self.now c.args.a c.args.b (leaf own)
