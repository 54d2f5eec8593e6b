use Rattle.std.proofs.Common.{◌∙◌, length, refl, arith}
use Rattle.steal_pool.specs.Stealers.{HasNoStealer}
use Rattle.steal_pool.proofs.Gathering.{joined_length, joined_more, joined_self}
use Rattle.steal_pool.proofs.Scanning.{before_all}
use Rattle.steal_pool.proofs.joining.join_all_stealers.Goals as goal

pub loop-i-init : goal.loop-i-init
loop-i-init g c = record { len = refl; linked = c.requires.linked; joined = joined_self c.args.seats.now; before = λ k s at b. absurd (omega (arith, b)) }

pub loop-i-preserved : goal.loop-i-preserved
loop-i-preserved g c = record {
  len = joined_length c.loop-i.seats c.join_stealers_of_seat.new.seats c.join_stealers_of_seat.ensures.joined ∙ c.loop-i.invariant.len;
  linked = c.join_stealers_of_seat.ensures.linked;
  joined = joined_more c.args.seats.now c.loop-i.seats c.join_stealers_of_seat.new.seats c.loop-i.invariant.joined c.join_stealers_of_seat.ensures.joined;
  before = c.join_stealers_of_seat.ensures.before;
}

pub returns-clause-none : goal.returns-clause-none
returns-clause-none g c = before_all HasNoStealer c.loop-i.seats (length c.loop-i.seats) (omega arith) (λ k s at b. c.loop-i.invariant.before k s at (omega (arith, b, c.loop-i.invariant.len, c.loop-i-test.false)))
