use Rattle.std.proofs.Common.{◌++◌, codes, w64}
use Rattle.std.proofs.lemmas.Int.{to_z-of_z}
use Rattle.spec_times.specs.Calendar.{time_text}
use Rattle.window_text.proofs.Appended.{two_pieces}
use Rattle.window_text.proofs.summary_lines.add_span.Goals as goal

pub returns : goal.returns
returns c =
    two_pieces c.add_named_time-2.result _ _ _ (codes "CHECK start " ++ time_text c.args.start) (codes " end " ++ time_text c.args.end)
    (rw (to_z-of_z w64 c.args.start c.ranges.start) at c.in_ok-add_named_time.ensures) (rw (to_z-of_z w64 c.args.end c.ranges.end) at c.add_named_time-2.ensures)
