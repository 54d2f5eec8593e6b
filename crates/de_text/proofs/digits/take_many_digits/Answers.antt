use Rattle.std.proofs.Common.{arith, length, ap, length-append}
use Rattle.spec_text.specs.Splitting.{digits_at}
use Rattle.spec_text.proofs.Sound.{digits_at_text}
use Rattle.de_text.proofs.digits.take_many_digits.Goals as goal

pub overflow_add-result : goal.overflow_add-result
overflow_add-result c =
    let rest = c.loop-longer.rest.now in
    let within = ap length (digits_at_text rest) in
    omega (arith, within, length-append (digits_at rest).0 (digits_at rest).1, c.take_digits-last.ensures.count, c.loop-longer.invariant.within)
