use Rattle.std.proofs.Common.{arith}
use Rattle.ival_core.proofs.Shortest.{shift-is, lead, few_halvings}
use Rattle.ival_core.proofs.ends.leading_shift.Goals as goal

pub overflow_sub-result : goal.overflow_sub-result
overflow_sub-result c =
    lead c.args.size c.ilog2.result (let e = c.requires.is in omega arith) c.ilog2.ensures.next_power_gt

pub returns-clause-equals : goal.returns-clause-equals
returns-clause-equals c =
    shift-is c.args.lo c.args.hi c.args.size c.ilog2.result c.requires.ordered c.requires.is c.ilog2.ensures.power_le c.ilog2.ensures.next_power_gt (lead c.args.size c.ilog2.result (let e = c.requires.is in omega arith) c.ilog2.ensures.next_power_gt)

pub returns-clause-few : goal.returns-clause-few
returns-clause-few c h = few_halvings c.args.size c.ilog2.result c.ilog2.ensures.power_le h
