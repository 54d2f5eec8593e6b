use Rattle.std.proofs.Common.{◌++◌, codes, ℤ, pos, get_or, w64, rules}
use Rattle.std.proofs.lemmas.Int.{to_z-of_z}
use mir.Val.{SFits}
use Rattle.spec_output.specs.Report.{span_text}
use Rattle.window_text.proofs.Appended.{one_more_piece}
use Rattle.window_text.proofs.set_lines.add_span_lines.Goals as goal

pub loop-span-preserved : goal.loop-span-preserved
loop-span-preserved c =
    let spans = c.args.spans.now in
    let span = get_or spans c.loop-span.span-index (pos 0, pos 0) in
    let first : SFits w64 span.0 = search rules in
    let last : SFits w64 span.1 = search rules in
    one_more_piece (λ (span : ℤ × ℤ). c.args.word.now ++ span_text c.args.tick span.0 span.1 ++ codes "\n") spans c.loop-span.span-index (pos 0, pos 0) _ _ _ c.loop-span-test.true c.loop-span.invariant
    (rw (to_z-of_z w64 span.0 first, to_z-of_z w64 span.1 last) at c.in_ok-add_span_line.ensures)
