use Rattle.still_judge.specs.declared.standing.Standing.TheVariants.{Begun, Open, Served}
use Rattle.std.proofs.Common.{sym}
use Rattle.still_judge.proofs.Eager.{stands_as}
use Rattle.still_judge.proofs.still_list.StillList.eager_verdict.Goals as goal

pub returns-in-Served-clause-some : goal.returns-in-Served-clause-some
returns-in-Served-clause-some c = stands_as c.args.search.now c.args.self.now c.args.node c.node_standing.result Served c.node_standing.ensures c.in-Served.is

pub returns-in-Begun-clause-some : goal.returns-in-Begun-clause-some
returns-in-Begun-clause-some c = stands_as c.args.search.now c.args.self.now c.args.node c.node_standing.result Begun c.node_standing.ensures c.in-Begun.is

pub returns-in-Open-clause-none : goal.returns-in-Open-clause-none
returns-in-Open-clause-none c = sym (stands_as c.args.search.now c.args.self.now c.args.node c.node_standing.result Open c.node_standing.ensures c.in-Open.is)
