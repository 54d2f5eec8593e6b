use Rattle.spec_output.proofs.Literals.{no_word_line, option_line}
use Rattle.spec_output.proofs.laws.bad_command_lines_are_reported_with_their_fault.Goals as goal

pub returns-clause-no_word : goal.returns-clause-no_word
returns-clause-no_word c = no_word_line

pub returns-clause-option : goal.returns-clause-option
returns-clause-option c = option_line
