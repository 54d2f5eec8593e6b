use Rattle.std.proofs.Common.{◌++◌, to_z-of_z}
use Rattle.std.specs.Prelude.{string_bytes}
use Rattle.spec_output.specs.Report.{span_text}
use Rattle.window_text.proofs.Appended.{last_text, two_pieces}
use Rattle.window_text.proofs.window_lines.add_span_line.Goals as goal

pub returns : goal.returns
returns c =
    let a = c.args in
    let first = c.ranges.first in
    let last = c.ranges.last in
    two_pieces c.push_str.result _ _ _ (a.word.now ++ span_text a.tick a.first a.last) a.end.now (simp to_z-of_z at c.in_ok-add_span.ensures) (last_text c.push_str.result (string_bytes c.add_span.new.text) (string_bytes c.push_str.new.self) a.end.now c.push_str.ensures.bytes)
