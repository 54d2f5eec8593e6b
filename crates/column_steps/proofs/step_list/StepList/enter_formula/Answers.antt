use Rattle.std.proofs.Common.{◌∙◌, ◌+◌, IsTrue, ap, sym, subst}
use Rattle.event_expr.specs.declared.leaves.Leaves.{Leaves}
use Rattle.event_expr.specs.Leaves.{has_leaf, leaves_of}
use Rattle.spec_expressions.specs.Term.{Term, nodes, term}
use Rattle.spec_steps.specs.ColumnTerms.{of_leaf, of_term}
use Rattle.column_steps.specs.Listed.{Enters, Stands}
use Rattle.column_steps.proofs.Formulas.{after_places}
use Rattle.column_steps.proofs.Framed.{leaf_entry}
use Rattle.column_steps.proofs.step_list.StepList.enter_formula.Goals as goal

pub enter_part-requires-clause-placed : goal.enter_part-requires-clause-placed
enter_part-requires-clause-placed c = λ leaf is named.
    let places = c.enter_leaves-places.ensures in
    let expr = c.expr-expr.ensures in
    let e = term c.expr-expr.result.now in
    let same = ap leaves_of expr.whole ∙ sym c.leaves.ensures in
    let l = c.enter_leaves-places.new.self in
    leaf_entry (λ own k. Stands l k (of_leaf l.sight own)) c.leaves.result _ places.first_position places.second_position places.first_velocity places.second_velocity leaf is
    (subst (λ (w : Leaves). IsTrue (has_leaf w leaf)) same ((c.sets_have_what_is_named.ensures e expr.formula.leaves leaf is).1 named))

pub returns : goal.returns
returns c =
    let l = c.args.self.now in
    subst (λ (e : Term). Enters l c.enter_part.new.self (120 + nodes e) c.enter_part.result (of_term l.sight e)) c.expr-expr.ensures.whole
    (after_places _ _ _ _ _ (term c.expr-expr.result.now) c.enter_leaves-places.ensures.grown c.enter_part.ensures)
