use Rattle.std.proofs.Common.{◌<◌, length, arith}
use Rattle.std.proofs.lemmas.Bool.Decides.{nat_tests}
use Rattle.de_text.proofs.TokenPlaces.{has_token}
use Rattle.de_text.proofs.tokens.is_blank.Goals as goal

pub returns-clause-some : goal.returns-clause-some
returns-clause-some c test =
    let within = c.blank_length.ensures.within in
    let below : c.blank_length.result < length c.args.line.now = grind (arith, nat_tests) in
    has_token c.args.line.now c.blank_length.result below c.blank_length.ensures.before (c.blank_length.ensures.at below)
