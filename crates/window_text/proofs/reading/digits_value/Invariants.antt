use Rattle.spec_text.proofs.Values.{IsValue}
use Rattle.window_text.proofs.reading.digits_value.Given as goal

abbrev pub invariant-loop-digit : goal.invariant-loop-digit
invariant-loop-digit l = IsValue l.digits l.digit-index l.value
