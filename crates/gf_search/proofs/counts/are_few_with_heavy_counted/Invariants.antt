use Rattle.std.proofs.Common.{◌≤◌, ◌+◌, drop}
use Rattle.spec_stills.specs.Settled.{leaves_below}
use Rattle.gf_search.proofs.counts.are_few_with_heavy_counted.Given as goal

abbrev pub invariant-loop-leaf : goal.invariant-loop-leaf
invariant-loop-leaf g l =
    leaves_below l.search l.leaves + l.rest ≤ leaves_below l.search (drop l.leaf-index l.leaves) + l.most
