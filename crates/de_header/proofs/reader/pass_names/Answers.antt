use Rattle.std.proofs.Common.{sym, ◌∙◌}
use Rattle.de_header.specs.Reader.{says}
use Rattle.de_header.proofs.Steps.{names_passed}
use Rattle.de_header.proofs.reader.pass_names.Goals as goal

pub returns-clause-moves : goal.returns-clause-moves
unfolding says
returns-clause-moves c = λ file rest.
    names_passed c.args.shape c.args.count c.args.left c.words_on_line-here.result c.args.passed c.args.emrat _ _ rest
    c.requires.0 c.words_on_line-here.ensures c.emrat_place-emrat.ensures
    ∙ sym (c.state_before_names.ensures.place file rest)
