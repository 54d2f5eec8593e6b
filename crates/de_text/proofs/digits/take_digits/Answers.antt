use Rattle.std.proofs.Common.{◌^◌, drop}
use Rattle.spec_text.specs.Splitting.{digits_at}
use Rattle.de_text.proofs.Fronts.{value_many}
use Rattle.de_text.proofs.digits.take_digits.Goals as goal

pub returns-then-number-ge-CAP-clause-number : goal.returns-then-number-ge-CAP-clause-number
returns-then-number-ge-CAP-clause-number c =
    let text = c.args.text.now in
    value_many c.args.start c.loop-i.number (10 ^ 18) (digits_at text).0 (digits_at (drop c.loop-i.i text)).0 c.if-number-ge-CAP.true c.loop-i.invariant.number
