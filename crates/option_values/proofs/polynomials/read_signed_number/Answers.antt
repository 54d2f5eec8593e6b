use Rattle.std.proofs.Common.{◌∙◌, lit<, Some, None}
use Rattle.std.proofs.lemmas.Str.Pattern.{strip_prefix_char}
use Rattle.option_values.proofs.Numbers.{signed_above, signed_below}
use Rattle.option_values.proofs.polynomials.read_signed_number.Goals as goal

pub returns-in-Some-clause-signed : goal.returns-in-Some-clause-signed
returns-in-Some-clause-signed c =
    c.as_negated.ensures
    ∙ signed_below c.args.digits c.args.most c.args.word.now c.in-Some.rest.now c.read_number.result
    (strip_prefix_char 45 c.args.word.now (Some c.in-Some.rest) c.in-Some.ensures.cases (lit< tt)) c.read_number.ensures.number

pub returns-in-None-clause-signed : goal.returns-in-None-clause-signed
returns-in-None-clause-signed c =
    c.as_signed.ensures
    ∙ signed_above c.args.digits c.args.most c.args.word.now c.read_number-in-None.result
    (strip_prefix_char 45 c.args.word.now None c.in-None.ensures.cases (lit< tt)) c.read_number-in-None.ensures.number
