use Rattle.std.proofs.Common.{◌≡◌, ◌∙◌, ℕ, ap, subst, sym}
use Rattle.spec_intervals.specs.Enclosure.{Enclosure}
use Rattle.spec_expressions.specs.Term.{Term}
use Rattle.spec_steps.specs.ColumnTerms.{of_term, sight_of}
use Rattle.spec_steps.proofs.Meanings.{term_enclosed}
use Rattle.column_steps.specs.Listed.{IsMadeAt, listed_term}
use Rattle.body_states.specs.Moments.{enclosure_in, meant_in}
use Rattle.step_enclosures.specs.Moments.{AreMade, StepMoment}
use Rattle.step_enclosures.proofs.enclosures.StepEnclosures.enclosure.Goals as goal

-- the enclosure of a step is that of each formula that it stands for
of_formula : (k : StepMoment) (place : ℕ) (e : Term) (x : Enclosure) → sight_of k.moment.view ≡ k.steps.sight → IsMadeAt k.steps place (of_term k.steps.sight e) → x ≡ meant_in k.moment (listed_term k.steps place) → x ≡ enclosure_in k.moment e
of_formula k place e x sight made is = is ∙ ap (meant_in k.moment) (made.stands.term ∙ λ i. of_term (sym sight i) e) ∙ term_enclosed k.moment.view k.moment.first k.moment.last e

pub returns-then-place-self-clause-enclosure : goal.returns-then-place-self-clause-enclosure
returns-then-place-self-clause-enclosure c = λ e made.
    let sight = subst (λ (k : StepMoment). sight_of k.moment.view ≡ k.steps.sight) c.self.view_is c.self.invariant.0 in
    let values = subst (λ (k : StepMoment). AreMade k.moment k.steps c.self.inside.made c.self.inside.slots.now) c.self.view_is c.self.invariant.3 in
    of_formula c.args.self.now c.args.place e _ sight made (values c.args.place c.if-place-self.true _)

pub returns-else-place-self-clause-enclosure : goal.returns-else-place-self-clause-enclosure
returns-else-place-self-clause-enclosure c = λ e made.
    let sight = subst (λ (k : StepMoment). sight_of k.moment.view ≡ k.steps.sight) c.self.view_is c.self.invariant.0 in
    of_formula c.args.self.now c.args.place e _ sight made c.make.ensures.enclosure
