use Rattle.std.proofs.Common.{ℕ, List, ◌++◌, pos, refl}
use Rattle.std.specs.Prelude.{codes}
use Rattle.spec_requests.specs.Examples.{search_in}
use Rattle.spec_output.specs.Report.{request_line, span_text}
use Rattle.spec_output.proofs.Literals.{number_0, number_1, number_2, number_9, number_50, report_of_no_window, report_of_two_windows, verified_without_window}
use Rattle.spec_output.proofs.examples.reports_end_with_their_counts.Goals as goal

-- the first line
abbrev head : List ℕ
head = request_line (search_in (codes "a")) (pos 1339000) (pos 1339400) ++ codes "\n"

pub returns-clause-windows : goal.returns-clause-windows
returns-clause-windows c =
    report_of_two_windows head (codes "C " ++ span_text 1 (pos 1339200) (pos 1339200) ++ codes " rise\n")
    (codes "U " ++ span_text 1 (pos 1339300) (pos 1339400) ++ codes "\n")

pub returns-clause-no_window : goal.returns-clause-no_window
returns-clause-no_window c = report_of_no_window head

pub returns-clause-certificate : goal.returns-clause-certificate
returns-clause-certificate c = verified_without_window head

pub returns-clause-generated : goal.returns-clause-generated
returns-clause-generated c = rw (number_0, number_1, number_2, number_9, number_50) refl
