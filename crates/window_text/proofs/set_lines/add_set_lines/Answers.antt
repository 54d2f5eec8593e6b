use Rattle.std.proofs.Common.{◌++◌, codes, length}
use Rattle.std.specs.Fmt.{decimal}
use Rattle.spec_output.specs.Report.{set_end_line, span_lines}
use Rattle.window_text.proofs.Appended.{three_pieces, two_pieces}
use Rattle.window_text.proofs.set_lines.add_set_lines.Goals as goal

pub returns : goal.returns
returns c =
    let surely = c.args.surely.now in
    let perhaps = c.args.perhaps.now in
    three_pieces c.add_last_number.result _ _ _ _ (span_lines (codes "S ") c.args.tick surely) (span_lines (codes "P ") c.args.tick perhaps) (set_end_line surely perhaps) c.in_ok-add_span_lines.ensures c.in_ok-add_span_lines-2.ensures
    (two_pieces c.add_last_number.result _ _ _ (codes "END sure " ++ decimal (length surely)) (codes " possible " ++ decimal (length perhaps) ++ codes "\n") c.in_ok-add_number.ensures c.add_last_number.ensures)
