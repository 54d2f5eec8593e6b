use Rattle.std.proofs.Common.{arith, subst}
use Rattle.column_steps.specs.Listed.{listed_term}
use Rattle.event_models.specs.Covered.{IsIfMade}
use Rattle.event_models.specs.Spans.{term_at}
use Rattle.event_models.proofs.SignTerms.{signs_of_step}
use Rattle.event_models.proofs.by_steps.sign_model.Goals as goal

pub returns-in-Some-slots : goal.returns-in-Some-slots
returns-in-Some-slots c =
    let s = c.args.span.now in
    let alone = c.in-Some.ensures in
    let below = alone.below in
    signs_of_step s.states.now s.times.first s.times.last s.times.ordered c.args.steps.now c.args.place c.in-Some.x c.in-Some-slots.model alone
    (subst (λ made. IsIfMade s.times.first s.times.last made (term_at s (listed_term c.args.steps.now c.in-Some.x))) c.in-Some-slots.is
    (c.requires.values c.in-Some.x (omega (arith, below)) _))
