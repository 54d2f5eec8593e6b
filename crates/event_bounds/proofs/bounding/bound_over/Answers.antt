use Rattle.std.proofs.Common.{◌≡◌, ◌∙◌, refl, to_z, of_z, w64, subst}
use Rattle.std.proofs.lemmas.Int.{to_z-of_z}
use Rattle.spec_expressions.specs.Term.{Term}
use Rattle.spec_bounds.specs.Terms.{bound_over}
use Rattle.spec_steps.specs.ColumnTerms.{of_term, sight_of}
use Rattle.spec_steps.specs.Meanings.{bound_meant}
use Rattle.column_steps.specs.Listed.{IsMadeAt}
use Rattle.event_bounds.specs.Made.{IsBound}
use Rattle.event_bounds.proofs.bounding.bound_over.Goals as goal
use Rattle.event_bounds.proofs.bounding.bound_over.Goals.{After-step_bound}

pub step_bound-requires-clause-ready : goal.step_bound-requires-clause-ready
step_bound-requires-clause-ready c =
    let first = c.new-times.ensures.first ∙ to_z-of_z w64 c.args.a c.ranges.a in
    let last = c.new-times.ensures.last ∙ to_z-of_z w64 c.args.b c.ranges.b in
    record {
      fits = rw (first, last) c.requires.fits;
      position = rw c.column_ranges-position.ensures (record { view = refl; quantity = refl; first = refl; last = refl });
      velocity = rw c.column_ranges-velocity.ensures (record { view = refl; quantity = refl; first = refl; last = refl });
    }

made : (c : After-step_bound) → (e : Term) → IsMadeAt c.args.listed.steps.now c.args.listed.place (of_term (sight_of c.args.states.now) e) → IsBound c.step_bound.result (bound_over c.args.states.now e c.args.a c.args.b)
made c e is =
    let v = c.args.states.now in
    let a : to_z w64 (of_z w64 c.args.a) ≡ c.args.a = to_z-of_z w64 c.args.a c.ranges.a in
    let b : to_z w64 (of_z w64 c.args.b) ≡ c.args.b = to_z-of_z w64 c.args.b c.ranges.b in
    subst (IsBound c.step_bound.result)
    ((λ i. bound_meant v ((c.new-times.ensures.first ∙ a) i) ((c.new-times.ensures.last ∙ b) i) (is.stands.term i)) ∙ c.terms_mean_their_formulas.ensures.bounds v e c.args.a c.args.b)
    c.step_bound.ensures

pub returns-clause-range : goal.returns-clause-range
returns-clause-range c = λ e is. (made ((goal.at.returns-clause-range c).After-step_bound) e is).range

pub returns-clause-step : goal.returns-clause-step
returns-clause-step c = λ e is. (made ((goal.at.returns-clause-step c).After-step_bound) e is).step
