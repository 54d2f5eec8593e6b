use Rattle.std.proofs.Common.{◌++◌, pos}
use Rattle.std.specs.Prelude.{codes}
use Rattle.spec_output.specs.Report.{span_text}
use Rattle.spec_output.proofs.Literals.{lines_of_two_spans, set_line}
use Rattle.spec_output.proofs.examples.sets_are_printed.Goals as goal

pub returns-clause-line : goal.returns-clause-line
returns-clause-line c = set_line

pub returns-clause-spans : goal.returns-clause-spans
returns-clause-spans c =
    lines_of_two_spans (codes "S " ++ span_text 1 (pos 1339000) (pos 1339150) ++ codes "\n") (codes "P " ++ span_text 1 (pos 1339000) (pos 1339199) ++ codes "\n")
