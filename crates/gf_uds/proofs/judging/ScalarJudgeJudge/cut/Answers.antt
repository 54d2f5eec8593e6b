use Rattle.std.proofs.Common.{arith}
use Rattle.gf_uds.proofs.judging.ScalarJudgeJudge.cut.Goals as goal

pub overflow_add-depth : goal.overflow_add-depth
overflow_add-depth g c =
    let j = c.args.self.now in
    let is = j.sound.cut c.args.node c.requires.valid c.requires.split in
    let below = is.right.depth in
    let deepest = c.depth_limit-deepest.ensures in
    omega (arith, below, deepest)
