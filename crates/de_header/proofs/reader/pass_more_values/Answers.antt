use Rattle.std.proofs.Common.{sym, ◌∙◌}
use Rattle.de_header.specs.Reader.{says}
use Rattle.de_header.proofs.Steps.{values_passed}
use Rattle.de_header.proofs.reader.pass_more_values.Goals as goal

pub returns-clause-moves : goal.returns-clause-moves
unfolding says
returns-clause-moves c = λ file rest.
    values_passed c.args.facts c.args.left c.words_on_line-here.result _ rest c.requires.0 c.words_on_line-here.ensures
    ∙ sym (c.state_before_values.ensures.place file rest)
