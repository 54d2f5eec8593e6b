use Rattle.std.proofs.Common.{arith}
use Rattle.spec_text.proofs.Values.{value_begun, value_more, value_whole}
use Rattle.window_text.proofs.Digits.{value_room, value_small}
use Rattle.window_text.proofs.reading.digits_value.Goals as goal

pub loop-digit-init : goal.loop-digit-init
loop-digit-init c = value_begun c.args.digits.now

pub overflow_mul-value : goal.overflow_mul-value
overflow_mul-value c =
    let room = value_room c.args.digits.now c.loop-digit.digit-index c.loop-digit.value c.loop-digit-test.true c.requires c.loop-digit.invariant in
    omega arith

pub overflow_add-value : goal.overflow_add-value
overflow_add-value c =
    let room = value_room c.args.digits.now c.loop-digit.digit-index c.loop-digit.value c.loop-digit-test.true c.requires c.loop-digit.invariant in
    let small = c.saturating_sub.type_inv in
    omega arith

pub loop-digit-preserved : goal.loop-digit-preserved
loop-digit-preserved c =
    value_more c.args.digits.now c.loop-digit.digit-index c.loop-digit.value c.saturating_sub.result c.loop-digit-test.true (omega (arith, c.type_inv.digits c.loop-digit.digit-index)) c.saturating_sub.ensures c.loop-digit.invariant

pub returns-clause-value : goal.returns-clause-value
returns-clause-value c = value_whole c.args.digits.now c.loop-digit.digit-index c.loop-digit.value (omega arith) c.loop-digit.invariant

pub returns-clause-bound : goal.returns-clause-bound
returns-clause-bound c = value_small c.args.digits.now c.loop-digit.digit-index c.loop-digit.value (omega arith) c.requires c.loop-digit.invariant
