use Rattle.std.proofs.Common.{to_z-of_z}
use Rattle.window_text.proofs.report_lines.add_request_line.Goals as goal

pub returns : goal.returns
returns c =
    let from = c.ranges.from in
    let to = c.ranges.to in
    rw (← c.dir_name.ensures) (simp to_z-of_z at c.add_query_line.ensures)
