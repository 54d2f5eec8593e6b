use Rattle.event_models.proofs.Constants.{zero_ordered}
use Rattle.event_models.proofs.Rules.{constant_made}
use Rattle.event_models.proofs.by_steps.SpanArithmetic.zero.Goals as goal

pub returns : goal.returns
returns c =
    let t = c.args.self.now.times in
    constant_made t.first t.last t.ordered c.of_interval.result _ zero_ordered (rw c.zero.ensures at c.of_interval.ensures)
