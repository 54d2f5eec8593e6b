use Rattle.std.proofs.Common.{drop}
use Rattle.spec_sets.specs.Signs.{end_from}
use Rattle.gf_sets.specs.Walking.{IsWalked}
use Rattle.gf_sets.proofs.from_leaves.times_at_least.Given as goal

abbrev pub invariant-loop-leaf : goal.invariant-loop-leaf
invariant-loop-leaf g l =
    IsWalked (g.P.SignSource.sign l.signs) l.fn.from (end_from l.fn.from l.leaves) l.leaves (drop l.leaf-index l.leaves) l.pair.sure l.pair.maybe
