use Rattle.std.proofs.Common.{refl, arith}
use Rattle.steal_pool.proofs.Gathering.{joined_more, joined_self, joins_before, joins_fewer, joins_joined, joins_length, joins_linked}
use Rattle.steal_pool.proofs.joining.join_stealers_of_seat.Goals as goal

pub loop-init : goal.loop-init
loop-init g c = record { inside = c.requires.inside; linked = c.requires.linked; joined = joined_self c.args.seats.now; before = c.requires.before }

pub loop-smaller : goal.loop-smaller
loop-smaller g c = omega (arith, joins_fewer c.args.i c.loop.seats c.join_last_stealer.new.seats (c.loop-test.ensures.joins refl))

pub loop-preserved : goal.loop-preserved
loop-preserved g c =
    let x = c.loop-test.ensures.joins refl in record {
      inside = omega (arith, c.loop.invariant.inside, joins_length c.args.i c.loop.seats c.join_last_stealer.new.seats x);
      linked = joins_linked c.args.i c.loop.seats c.join_last_stealer.new.seats x c.loop.invariant.linked;
      joined = joined_more c.args.seats.now c.loop.seats c.join_last_stealer.new.seats c.loop.invariant.joined (joins_joined c.args.i c.loop.seats c.join_last_stealer.new.seats x);
      before = joins_before c.args.i c.loop.seats c.join_last_stealer.new.seats x c.loop.invariant.before;
    }
