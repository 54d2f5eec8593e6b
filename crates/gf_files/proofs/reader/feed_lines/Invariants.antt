use Rattle.std.proofs.Common.{◌≡◌, ◌+◌, length}
use Rattle.spec_text.specs.Lines.{lines}
use Rattle.de_text.specs.Cursor.{counted_after}
use Rattle.gf_files.proofs.Feeding.{Leads}
use Rattle.gf_files.proofs.reader.feed_lines.Given as goal

abbrev pub invariant-loop-line : goal.invariant-loop-line
invariant-loop-line l = record {
  leads : Leads l.fn.reader (counted_after l.before l.piece) l.reader l.lines.left;
  end_line : l.lines.end_line ≡ l.before + length (lines l.piece) + 1;
}

abbrev pub decreases-loop-line : goal.decreases-loop-line
decreases-loop-line l = length l.lines.left
