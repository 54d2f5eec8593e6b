use Rattle.std.proofs.Common.{refl}
use Rattle.spec_stills.specs.Settled.{settled}
use Rattle.still_judge.proofs.Changing.{changed, ended, has_time}
use Rattle.still_judge.proofs.Descent.{itself}
use Rattle.still_judge.proofs.span_judge.StillJudge.settle.Goals as goal

pub settle_leaf-requires-clause-time : goal.settle_leaf-requires-clause-time
settle_leaf-requires-clause-time g c κs lives =
    has_time (settled c.args.self.now.search.now c.args.root) c.loop-leaf.leaf-index c.args.leaves.now c.loop-leaf.leaves c.loop-leaf.invariant.settled _ c.loop-leaf-test.true c.requires.time

pub loop-leaf-init : goal.loop-leaf-init
loop-leaf-init g c = record {
  settled = refl;
  valid = c.requires.valid;
  below = itself c.args.self.now.search.now c.args.root;
}

pub loop-leaf-preserved : goal.loop-leaf-preserved
loop-leaf-preserved g c = record {
  settled = changed (settled c.args.self.now.search.now c.args.root) c.loop-leaf.leaf-index c.args.leaves.now c.loop-leaf.leaves c.loop-leaf.invariant.settled _ _ c.loop-leaf-test.true c.settle_leaf.ensures.leaf;
  valid = c.settle_leaf.ensures.valid;
  below = c.settle_leaf.ensures.below;
}

pub returns : goal.returns
returns g c =
    ended (settled c.args.self.now.search.now c.args.root) c.loop-leaf.leaf-index c.args.leaves.now c.loop-leaf.leaves c.loop-leaf.invariant.settled c.loop-leaf-test.false c.loop-leaf.auto.leaf-index-end
