use Rattle.std.proofs.Common.{◌≡◌, ◌++◌, take, string_bytes}
use Rattle.spec_output.specs.Report.{span_lines}
use Rattle.window_text.proofs.set_lines.add_span_lines.Given as goal

abbrev pub invariant-loop-span : goal.invariant-loop-span
invariant-loop-span l = string_bytes l.text ≡ string_bytes l.initial.text ++ span_lines l.word l.tick (take l.span-index l.spans)
