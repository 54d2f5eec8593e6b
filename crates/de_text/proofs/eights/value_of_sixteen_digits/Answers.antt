use Rattle.std.proofs.Common.{take}
use Rattle.std.proofs.lemmas.List.{length-take-le}
use Rattle.de_text.proofs.SixteenDigits.{sixteen_are, sixteen_below}
use Rattle.de_text.proofs.eights.value_of_sixteen_digits.Goals as goal

pub returns-clause-value : goal.returns-clause-value
returns-clause-value c =
    let text = c.args.text.now in
    sixteen_are (take 16 text) c.from.result c.from-2.result (length-take-le 16 text c.requires.long) c.requires.digits c.from.ensures c.from-2.ensures

pub returns-clause-bound : goal.returns-clause-bound
returns-clause-bound c =
    let text = c.args.text.now in
    sixteen_below (take 16 text) _ (length-take-le 16 text c.requires.long) c.requires.digits (returns-clause-value c)
