use Rattle.spec_expressions.specs.Term.{Term, node_limit, nodes}
use Rattle.std.proofs.Common.{◌≤◌, subst}
use Rattle.column_steps.proofs.Formulas.{first_made}
use Rattle.column_steps.proofs.step_list.StepList.of.Goals as goal

pub returns-clause-made : goal.returns-clause-made
returns-clause-made c =
    let few = subst (λ (e : Term). nodes e ≤ node_limit) c.expr-expr.ensures.whole c.expr-expr.ensures.formula.nodes_within in
    first_made _ _ c.args.sight c.args.formula.now _ c.none-steps.ensures few c.enter_formula-place.ensures
