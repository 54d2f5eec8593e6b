use Rattle.std.proofs.Common.{◌≡◌, take}
use Rattle.spec_output.specs.Report.{undecided_count}
use Rattle.window_text.proofs.counting.undecided_count.Given as goal

abbrev pub invariant-loop-window : goal.invariant-loop-window
invariant-loop-window l = l.count ≡ undecided_count (take l.window-index l.windows)
