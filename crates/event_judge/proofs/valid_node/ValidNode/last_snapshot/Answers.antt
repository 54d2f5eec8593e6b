use Rattle.event_judge.proofs.valid_node.ValidNode.last_snapshot.Goals as goal
use Rattle.event_judge.proofs.Near.{last_fits}

pub at-requires : goal.at-requires
at-requires c = last_fits c.args.self.search.now c.args.self.sound c.args.self.node c.args.self.valid c.states-states.result.now c.states-states.ensures c.columns-columns.ensures.view
