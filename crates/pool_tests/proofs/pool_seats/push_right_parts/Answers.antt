use Rattle.std.proofs.Common.{◌∙◌, refl}
use Rattle.steal_pool.proofs.Entering.{same_more}
use Rattle.steal_pool.proofs.Pooling.{same_self}
use Rattle.pool_tests.proofs.pool_seats.push_right_parts.Goals as goal

pub loop-init : goal.loop-init
loop-init g c = record { same = same_self c.args.seat.now; refusal = refl }

pub returns-in_default : goal.returns-in_default
returns-in_default g c = record {
  same = same_more c.args.seat.now c.loop.seat c.push_right_part.new.seat c.loop.invariant.same c.push_right_part.ensures.same;
  refusal = c.push_right_part.ensures.refusal ∙ c.loop.invariant.refusal;
}

pub returns-in_default-2-clause-same : goal.returns-in_default-2-clause-same
returns-in_default-2-clause-same g c = same_more c.args.seat.now c.loop.seat c.push_right_part.new.seat c.loop.invariant.same c.push_right_part.ensures.same

pub returns-in_default-2-clause-refusal : goal.returns-in_default-2-clause-refusal
returns-in_default-2-clause-refusal g c = c.push_right_part.ensures.refusal ∙ c.loop.invariant.refusal

pub loop-preserved : goal.loop-preserved
loop-preserved g c = record {
  same = same_more c.args.seat.now c.loop.seat c.push_right_part.new.seat c.loop.invariant.same c.push_right_part.ensures.same;
  refusal = c.push_right_part.ensures.refusal ∙ c.loop.invariant.refusal;
}

pub returns-clause-same : goal.returns-clause-same
returns-clause-same g c = c.loop.invariant.same

pub returns-clause-refusal : goal.returns-clause-refusal
returns-clause-refusal g c = c.loop.invariant.refusal
