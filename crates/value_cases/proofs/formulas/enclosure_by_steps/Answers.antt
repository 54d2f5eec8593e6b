use Rattle.std.proofs.Common.{◌∙◌, subst, sym, w64}
use Rattle.std.proofs.lemmas.Int.{to_z-of_z}
use Rattle.spec_steps.specs.ColumnTerms.{of_term}
use Rattle.column_steps.specs.Listed.{IsMadeAt}
use Rattle.body_states.specs.Moments.{enclosure_in}
use Rattle.value_cases.proofs.formulas.enclosure_by_steps.Goals as goal

pub returns : goal.returns
returns c =
    let e = c.args.formula.now in
    let moment = rw (to_z-of_z w64 c.args.a c.ranges.a, to_z-of_z w64 c.args.b c.ranges.b) at c.at-snapshot.ensures in
    let asked = rw c.new.ensures at c.enclosure.ensures.enclosure e in
    let made = subst (λ s. IsMadeAt c.of-steps.result.0 c.of-steps.result.1 (of_term s e)) (sym c.of-steps.ensures.sight) c.of-steps.ensures.made in
    asked made ∙ λ i. enclosure_in (moment i) e
