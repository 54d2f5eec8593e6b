use Rattle.std.proofs.Common.{arith}
use Rattle.eph_model.proofs.QuickPairs.{tiny}
use Rattle.eph_model.proofs.quick.quotient_below_one.Goals as goal

pub returns : goal.returns
returns c = let size = c.ranges.size in tiny c.args.size c.args.places (omega arith) c.requires
