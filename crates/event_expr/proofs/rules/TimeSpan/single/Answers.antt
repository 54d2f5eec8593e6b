use Rattle.event_expr.proofs.Steps.{enclosure-single}
use Rattle.event_expr.proofs.rules.TimeSpan.single.Goals as goal

pub returns : goal.returns
returns c = λ plain step. enclosure-single c.args.self.now.first c.args.self.now.last c.requires c.args.mid plain step c.zero.result c.zero.ensures
