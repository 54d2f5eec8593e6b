-- Which terms are no formulas, and why: the first limit that is passed.
use Rattle.std.specs.Prelude.{◌<◌, ◌≤◌}
use Rattle.spec_expressions.specs.Term.{Term, nodes, degree, HasConstants, node_limit, degree_limit}
use Rattle.event_expr.specs.declared.limits.ExprFault.{ExprFault}
use Rattle.event_expr.specs.declared.limits.ExprFault.TheVariants.{Nodes, Degree, Constant}

abbrev pub HasFault : Term → ExprFault → Type 0
HasFault e Nodes = node_limit < nodes e
HasFault e Degree = (nodes e ≤ node_limit) × (degree_limit < degree e)
HasFault e Constant = (nodes e ≤ node_limit) × (degree e ≤ degree_limit) × (HasConstants e → ⊥)
