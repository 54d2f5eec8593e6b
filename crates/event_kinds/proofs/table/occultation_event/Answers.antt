use Rattle.std.proofs.Common.{List, sym, subst, ◌∙◌}
use Rattle.std.specs.Prelude.{All}
use Rattle.spec_expressions.specs.Term.{IsFormula}
use Rattle.spec_searches.specs.Event.{Condition, IsCondition}
use Rattle.spec_kinds.proofs.Tests.{small_radius}
use Rattle.spec_kinds.proofs.Formulas.{shadow_formula, shadow_conditions_formulas}
use Rattle.event_kinds.proofs.table.occultation_event.Goals as goal

-- the formulas are those of the occultation
pub invariant_of-result : goal.invariant_of-result
invariant_of-result c =
    let front = c.args.ask.value1 in
    let back = c.args.ask.value2 in
    let p = small_radius front c.requires.front in
    let q = small_radius back c.requires.back in
    record {
      function = subst IsFormula (sym c.in_ok-parts.ensures.function) (shadow_formula front back p q c.args.shadow);
      conditions = subst (λ (cs : List Condition). All IsCondition cs) (sym (c.in_ok-guards.ensures ∙ c.in_ok-parts.ensures.guards)) (shadow_conditions_formulas front back p q c.args.shadow);
    }
