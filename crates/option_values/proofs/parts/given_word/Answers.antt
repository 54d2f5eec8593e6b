use Rattle.std.proofs.Common.{◌∙◌, ap}
use Rattle.clap.proofs.WalkLemmas.{first_value-rows}
use Rattle.clap.specs.Matches.{found_of, first_value}
use Rattle.option_values.specs.Readings.{values_of}
use Rattle.option_values.proofs.parts.given_word.Goals as goal

pub returns : goal.returns
unfolding values_of
returns c =
    c.get_str.ensures ∙ ap (first_value (found_of c.args.matches.now)) c.option_name.ensures
    ∙ first_value-rows (found_of c.args.matches.now) _
