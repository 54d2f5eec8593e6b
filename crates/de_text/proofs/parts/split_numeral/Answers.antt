use Rattle.std.proofs.Common.{◌+◌, ◌<◌, arith}
use Rattle.de_text.proofs.Parting.{split_is}
use Rattle.de_text.proofs.parts.split_numeral.Goals.{else-whole-eq0-via-then-whole-eq0+else-digits-eq0, else-whole-eq0-via-else-whole-eq0}
use Rattle.de_text.proofs.parts.split_numeral.Goals as goal

pub returns : goal.returns
returns c =
    let some : 0 < c.take_digits-whole.result.count + c.take_fraction-digits.result.count = elim c.else-whole-eq0.branch [
      | else-whole-eq0-via-then-whole-eq0+else-digits-eq0 w ↦ omega (arith, w.if-digits-eq0.false)
      | else-whole-eq0-via-else-whole-eq0 w ↦ omega (arith, w.if-whole-eq0.false)
    ] in
    rw c.numeral_parts.ensures
    (split_is c.args.word.now _ _ _ _ _ _ c.take_sign-negative.ensures.negative c.take_sign-negative.ensures.rest
    c.take_digits-whole.ensures.number c.take_digits-whole.ensures.count c.take_digits-whole.ensures.rest
    c.take_fraction-digits.ensures.number c.take_fraction-digits.ensures.count c.take_fraction-digits.ensures.rest
    c.in_ok-exponent_negative.ensures some)
