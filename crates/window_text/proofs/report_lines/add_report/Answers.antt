use Rattle.std.proofs.Common.{codes, to_z-of_z}
use Rattle.spec_output.specs.Report.{end_line, request_line, window_lines}
use Rattle.window_text.proofs.Appended.{four_pieces}
use Rattle.window_text.proofs.report_lines.add_report.Goals as goal

pub returns : goal.returns
returns c =
    let from = c.ranges.from in
    let to = c.ranges.to in
    four_pieces c.add_end_line.result _ _ _ _ _ (request_line c.args.find.now c.args.from c.args.to) (codes "\n") (window_lines c.args.find.now.tick c.args.windows.now) (end_line c.args.windows.now) (simp to_z-of_z at c.in_ok-add_request_line.ensures) c.in_ok-add_line_feed.ensures c.in_ok-add_windows.ensures c.add_end_line.ensures
