use Rattle.std.proofs.Common.{codes, to_z-of_z}
use Rattle.spec_output.specs.Report.{span_text}
use Rattle.spec_times.specs.Ticks.{tick_text}
use Rattle.window_text.proofs.Appended.{three_pieces, two_pieces}
use Rattle.window_text.proofs.window_lines.add_span.Goals as goal

pub returns : goal.returns
returns c =
    let a = c.args in
    let first = c.ranges.first in
    let last = c.ranges.last in
    two_pieces c.add_time_in_ticks-2.result _ _ _ a.word.now (span_text a.tick a.first a.last) c.in_ok-push_str.ensures.bytes
    (three_pieces c.add_time_in_ticks-2.result _ _ _ _ (tick_text a.tick a.first) (codes " ") (tick_text a.tick a.last) (simp to_z-of_z at c.in_ok-add_time_in_ticks.ensures) c.in_ok-push_str-2.ensures.bytes (simp to_z-of_z at c.add_time_in_ticks-2.ensures))
