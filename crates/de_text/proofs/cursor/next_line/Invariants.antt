use Rattle.std.proofs.Common.{◌≡◌, ◌+◌, ◌≤◌, length}
use Rattle.spec_text.specs.Lines.{lines}
use Rattle.de_text.specs.Cursor.{counted_after}
use Rattle.de_text.proofs.cursor.next_line.Given as goal

abbrev pub invariant-loop-bytes : goal.invariant-loop-bytes
invariant-loop-bytes l = record {
  same_left : counted_after l.passed l.rest ≡ counted_after l.before l.text;
  end : l.passed + length (lines l.rest) ≡ l.before + length (lines l.text);
  fits : l.passed + length l.rest ≤ l.before + length l.text;
}

abbrev pub decreases-loop-bytes : goal.decreases-loop-bytes
decreases-loop-bytes l = length l.rest
