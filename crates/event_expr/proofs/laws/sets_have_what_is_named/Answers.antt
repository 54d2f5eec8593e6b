use Rattle.event_expr.proofs.Named.{has_leaf-leaves_of}
use Rattle.event_expr.proofs.laws.sets_have_what_is_named.Goals as goal

pub returns : goal.returns
returns c = has_leaf-leaves_of
