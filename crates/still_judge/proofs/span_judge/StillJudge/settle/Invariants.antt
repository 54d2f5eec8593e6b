use Rattle.std.proofs.Common.{◌≡◌}
use Rattle.spec_trees.specs.Tree.{IsValid}
use Rattle.spec_searches.specs.Found.{rules}
use Rattle.spec_stills.specs.Settled.{settled}
use Rattle.still_judge.specs.Below.{IsBelow}
use Rattle.still_judge.proofs.Changing.{begun}
use Rattle.still_judge.proofs.span_judge.StillJudge.settle.Given as goal

abbrev pub invariant-loop-leaf : goal.invariant-loop-leaf
invariant-loop-leaf g l = record {
  settled : l.leaves ≡ begun (settled l.self.search.now l.fn.root) l.leaf-index l.initial.leaves;
  valid : IsValid (rules l.self.search.now) l.near;
  below : IsBelow l.self.search.now l.fn.root l.near;
}
