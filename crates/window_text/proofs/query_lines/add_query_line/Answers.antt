use Rattle.std.proofs.Common.{◌++◌, codes, to_z-of_z}
use Rattle.spec_output.specs.Report.{query_text, span_text}
use Rattle.window_text.proofs.Appended.{two_pieces}
use Rattle.window_text.proofs.query_lines.add_query_line.Goals as goal

pub returns : goal.returns
returns c =
    let find = c.args.find.now in
    let from = c.ranges.from in
    let to = c.ranges.to in
    two_pieces c.add_span.result _ _ _ (query_text c.args.word.now (c.args.name.now ++ c.args.wanted.now) find) (codes " span " ++ span_text find.tick c.args.from c.args.to) c.in_ok-add_query_up_to_span.ensures (simp to_z-of_z at c.add_span.ensures)
