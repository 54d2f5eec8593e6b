use Rattle.std.proofs.Common.{◌∙◌, ap, subst, sym}
use Rattle.spec_bodies.specs.declared.factor.Factor.TheVariants.{Cosine, Sine}
use Rattle.spec_steps.specs.ColumnTerms.{ColumnTerm}
use Rattle.spec_steps.specs.Steps.{step_term, terms_of}
use Rattle.column_steps.specs.Listed.{CanEnter, Enters, combined}
use Rattle.column_steps.proofs.Turned.{can_combine, can_scale, can_scale_later, combination_term, combined_parts, turned_below, turned_entered, turned_part}
use Rattle.column_steps.proofs.step_list.StepList.enter_turned.Goals as goal

pub enter-first-requires-clause-step : goal.enter-first-requires-clause-step
enter-first-requires-clause-step c =
    let given = c.requires.operands in
    can_scale c.args.self.now Cosine c.args.x given.first given.of_first (combined_parts c.args.sums c.args.self.now _ _ given.part).0

pub enter-second-requires-clause-step : goal.enter-second-requires-clause-step
enter-second-requires-clause-step c =
    let given = c.requires.operands in
    can_scale_later c.args.self.now _ 1 c.enter-first.ensures.grown Sine c.args.y given.second given.of_second (combined_parts c.args.sums c.args.self.now _ _ given.part).1

pub enter-requires-clause-step : goal.enter-requires-clause-step
enter-requires-clause-step c =
    let given = c.requires.operands in
    let first = c.enter-first.ensures in
    let second = c.enter-second.ensures in
    let below = turned_below (combined c.args.sums) Cosine Sine _ _ _ _ _ _ _ first second given.first given.second given.of_first given.of_second in
    let part = turned_part (combined c.args.sums) Cosine Sine _ _ _ _ _ _ _ first second given.first given.second given.of_first given.of_second given.part in
    subst (CanEnter c.enter-second.new.self) (sym c.combining_step.ensures) (can_combine c.args.sums c.enter-second.new.self _ _ below part)

pub returns : goal.returns
returns c = λ p q of_x of_y.
    let l = c.enter-second.new.self in
    let same = ap (step_term (terms_of l.steps)) c.combining_step.ensures ∙ combination_term c.args.sums l c.enter-first.result c.enter-second.result in
    let last = subst (λ (t : ColumnTerm). Enters l c.enter.new.self 1 c.enter.result t) same c.enter.ensures in
    turned_entered (combined c.args.sums) Cosine Sine _ _ _ _ _ _ _ c.enter-first.ensures c.enter-second.ensures p q of_x of_y _ _ last
