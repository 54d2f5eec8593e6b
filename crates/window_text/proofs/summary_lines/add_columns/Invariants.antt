use Rattle.std.proofs.Common.{◌≡◌, ◌+◌, ◌++◌, drop, string_bytes}
use Rattle.spec_output.specs.Summary.{column_lines}
use Rattle.window_text.proofs.summary_lines.add_columns.Given as goal

-- with the lines of the columns that are left, the text is whole
abbrev pub invariant-loop-place : goal.invariant-loop-place
invariant-loop-place l = string_bytes l.text ++ column_lines (l.place + 1) (drop l.place l.columns) ≡ string_bytes l.initial.text ++ column_lines 1 l.columns
