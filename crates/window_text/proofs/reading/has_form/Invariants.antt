use Rattle.std.proofs.Common.{◌≡◌, drop}
use Rattle.spec_times.specs.TimeWords.{has_form}
use Rattle.window_text.proofs.reading.has_form.Given as goal

-- what is left looks as the whole does
abbrev pub invariant-loop-i : goal.invariant-loop-i
invariant-loop-i l = has_form l.fn.picture l.fn.word ≡ has_form (drop l.i l.picture) (drop l.i l.word)
