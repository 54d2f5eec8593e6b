use Rattle.std.proofs.Common.{◌≡◌, ◌++◌, take, string_bytes}
use Rattle.spec_output.specs.Report.{scalar_window_lines}
use Rattle.window_text.proofs.scalar_lines.add_windows.Given as goal

abbrev pub invariant-loop-window : goal.invariant-loop-window
invariant-loop-window l = string_bytes l.text ≡ string_bytes l.initial.text ++ scalar_window_lines (take l.window-index l.windows)
