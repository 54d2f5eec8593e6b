use Rattle.std.proofs.Common.{arith, sym, ◌∙◌}
use Rattle.de_header.specs.Reader.{says}
use Rattle.de_header.proofs.Steps.{value_breaks, value_here, values_later}
use Rattle.de_header.proofs.reader.pass_values.Goals as goal

pub returns-then-here-before-clause-moves : goal.returns-then-here-before-clause-moves
unfolding says
returns-then-here-before-clause-moves c = λ file rest.
    values_later c.args.shape c.args.left c.words_on_line-here.result c.args.before _ rest c.words_on_line-here.ensures c.if-here-before.true

pub returns-in-Err-clause-moves : goal.returns-in-Err-clause-moves
unfolding says
returns-in-Err-clause-moves c = λ file rest.
    value_breaks c.args.shape c.args.left c.words_on_line-here.result c.args.before _ rest c.read_mass_ratio.result c.words_on_line-here.ensures
    (omega (arith, c.if-here-before.false)) c.read_mass_ratio.ensures c.in-Err.broken c.in-Err.is

pub returns-in-Ok-clause-moves : goal.returns-in-Ok-clause-moves
unfolding says
returns-in-Ok-clause-moves c = λ file rest.
    value_here c.args.shape c.args.left c.words_on_line-here.result c.args.before _ rest c.read_mass_ratio.result c.words_on_line-here.ensures
    (omega (arith, c.if-here-before.false)) c.read_mass_ratio.ensures c.in-Ok.emrat c.in-Ok.is
    ∙ sym (c.state_before_values.ensures.place file rest)
