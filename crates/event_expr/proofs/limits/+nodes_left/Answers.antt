use Rattle.spec_expressions.specs.Term.{term}
use Rattle.event_expr.proofs.Faults.{none-fit}
use Rattle.event_expr.proofs.limits.+nodes_left.Goals as goal

pub returns-then-room-eq0-clause-past : goal.returns-then-room-eq0-clause-past
returns-then-room-eq0-clause-past t c = none-fit c.args.room (term c.args.expr.now) c.if-room-eq0.true
