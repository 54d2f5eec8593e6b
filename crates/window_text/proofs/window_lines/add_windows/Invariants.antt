use Rattle.std.proofs.Common.{◌≡◌, ◌++◌, take, string_bytes}
use Rattle.spec_output.specs.Report.{window_lines}
use Rattle.window_text.proofs.window_lines.add_windows.Given as goal

abbrev pub invariant-loop-window : goal.invariant-loop-window
invariant-loop-window l = string_bytes l.text ≡ string_bytes l.initial.text ++ window_lines l.tick (take l.window-index l.windows)
