use Rattle.std.proofs.Common.{arith, sym, ◌∙◌, nat_lt, take, w8}
use Rattle.std.proofs.lemmas.List.{length-take-le}
use Rattle.std.proofs.lemmas.Simd.{bitmask_splat}
use Rattle.de_text.proofs.EightDigits.{true_is, unmarked_digits, above_marks}
use Rattle.de_text.proofs.eights.are_eight_digits.Goals as goal

pub returns-then-below-eq0 : goal.returns-then-below-eq0
returns-then-below-eq0 c test =
    let bytes = take 8 c.args.text.now in
    let long = length-take-le 8 c.args.text.now c.requires in
    unmarked_digits bytes (sym (bitmask_splat w8 nat_lt bytes 8 48 long (omega arith)) ∙ c.if-below-eq0.true) (sym (above_marks 8 (omega arith) bytes long) ∙ true_is _ _ test)
