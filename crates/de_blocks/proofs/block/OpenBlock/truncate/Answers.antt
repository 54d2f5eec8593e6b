use Rattle.de_blocks.proofs.Pushing.{dates_cut}
use Rattle.de_blocks.proofs.block.OpenBlock.truncate.Goals as goal

pub invariant_of-self : goal.invariant_of-self
invariant_of-self c = rw c.truncate.ensures (dates_cut c.args.count c.self.inside.store.numbers c.self.inside.dates c.self.invariant)
