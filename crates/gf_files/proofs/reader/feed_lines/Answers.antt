use Rattle.std.proofs.Common.{◌∙◌, ap, sym}
use Rattle.de_text.specs.Cursor.{Cursor, counted_after}
use Rattle.de_text.specs.Steps.{step_of}
use Rattle.gf_files.proofs.Feeding.{leads_long}
use Rattle.gf_files.proofs.reader.feed_lines.Goals as goal

pub returns-in-TooLong : goal.returns-in-TooLong
returns-in-TooLong c =
    leads_long c.args.reader (counted_after c.args.before c.args.piece.now) c.loop-line.reader c.loop-line.lines.left c.in-TooLong.line c.loop-line.invariant.leads
    (ap (λ (x : Cursor). step_of x.left) (sym c.in-None.ensures.other) ∙ sym c.line.ensures.step ∙ c.in-TooLong.is)
