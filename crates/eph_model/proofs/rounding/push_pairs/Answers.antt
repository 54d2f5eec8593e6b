use Rattle.std.proofs.Common.{arith}
use Rattle.eph_model.proofs.PairLists.{pairs_more}
use Rattle.eph_model.proofs.rounding.push_pairs.Goals as goal

pub loop-number-preserved : goal.loop-number-preserved
loop-number-preserved c =
    let so_far = c.loop-number.invariant in
    let length = c.push.ensures.upper_bound in
    let capacity = c.push.ensures.capacity in
    let below = c.loop-number-test.true in (
      omega (arith, so_far.0, length, capacity, below),
      λ before are. pairs_more before c.args.numbers.now c.loop-number.number-index _ c.pair_or_zeros.result c.loop-number.pairs.items c.push.new.self.items
          below (c.pair_or_zeros.ensures _ c.rounded.ensures) c.in_ok-push.ensures.items (so_far.1 before are),
    )
