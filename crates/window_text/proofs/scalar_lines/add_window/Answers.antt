use Rattle.std.proofs.Common.{◌++◌, w64, rules}
use mir.Val.{SFits}
use Rattle.std.proofs.lemmas.Int.{to_z-of_z}
use Rattle.std.specs.Prelude.{string_bytes}
use Rattle.spec_output.specs.Messages.{times}
use Rattle.spec_output.specs.Report.{line_end, line_word}
use Rattle.window_text.proofs.Appended.{last_text, two_pieces}
use Rattle.window_text.proofs.scalar_lines.add_window.Goals as goal

pub returns : goal.returns
returns c =
    let window = c.args.window in
    let first : SFits w64 window.first = search rules in
    let last : SFits w64 window.last = search rules in
    let start = rw (c.line_word.ensures, to_z-of_z w64 window.first first, to_z-of_z w64 window.last last) at c.in_ok-add_time_pair.ensures in
    two_pieces c.push_str.result _ _ _ (line_word window.holds ++ times window.first window.last) (line_end window.holds) start (last_text c.push_str.result (string_bytes c.add_time_pair.new.text) (string_bytes c.push_str.new.self) (line_end window.holds) (rw c.line_end.ensures at c.push_str.ensures.bytes))
