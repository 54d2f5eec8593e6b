use Rattle.pool_core.specs.declared.step.Step.TheVariants.{Push, Keep, Pop, TakeKept, Steal, Enter}
use Rattle.pool_core.proofs.Stepping.{refused_as}
use Rattle.pool_core.proofs.pool.Pool.step.Goals as goal

pub returns-in-Push-clause-refused : goal.returns-in-Push-clause-refused
returns-in-Push-clause-refused g c =
    refused_as (g.J.Judge.rules c.args.self.now.judge) c.args.self.now.state c.args.step (Push c.in-Push.w) c.take_own_step.result c.in-Push.is c.take_own_step.ensures.refused

pub returns-in-Keep-clause-refused : goal.returns-in-Keep-clause-refused
returns-in-Keep-clause-refused g c =
    refused_as (g.J.Judge.rules c.args.self.now.judge) c.args.self.now.state c.args.step (Keep c.in-Keep.w) c.take_own_step-in-Keep.result c.in-Keep.is c.take_own_step-in-Keep.ensures.refused

pub returns-in-Pop-clause-refused : goal.returns-in-Pop-clause-refused
returns-in-Pop-clause-refused g c =
    refused_as (g.J.Judge.rules c.args.self.now.judge) c.args.self.now.state c.args.step (Pop c.in-Pop.w) c.take_own_step-in-Pop.result c.in-Pop.is c.take_own_step-in-Pop.ensures.refused

pub returns-in-TakeKept-clause-refused : goal.returns-in-TakeKept-clause-refused
returns-in-TakeKept-clause-refused g c =
    refused_as (g.J.Judge.rules c.args.self.now.judge) c.args.self.now.state c.args.step (TakeKept c.in-TakeKept.w) c.take_own_step-in-TakeKept.result c.in-TakeKept.is c.take_own_step-in-TakeKept.ensures.refused

pub returns-in-Steal-clause-refused : goal.returns-in-Steal-clause-refused
returns-in-Steal-clause-refused g c =
    refused_as (g.J.Judge.rules c.args.self.now.judge) c.args.self.now.state c.args.step (Steal c.in-Steal.w c.in-Steal.from) c.steal_node.result c.in-Steal.is c.steal_node.ensures.refused

pub returns-in-Enter-clause-refused : goal.returns-in-Enter-clause-refused
returns-in-Enter-clause-refused g c =
    refused_as (g.J.Judge.rules c.args.self.now.judge) c.args.self.now.state c.args.step (Enter c.in-Enter.w) c.enter_leaf.result c.in-Enter.is c.enter_leaf.ensures.refused
