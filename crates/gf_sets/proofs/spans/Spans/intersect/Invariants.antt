use Rattle.std.proofs.Common.{◌+◌, ◌-◌, length, drop}
use Rattle.gf_sets.specs.Meeting.{IsMet}
use Rattle.gf_sets.proofs.spans.Spans.intersect.Given as goal

abbrev pub invariant-loop-i : goal.invariant-loop-i
invariant-loop-i l = IsMet l.self l.other (drop l.i l.xs) (drop l.j l.ys) l.shared

abbrev pub decreases-loop-i : goal.decreases-loop-i
decreases-loop-i l = (length l.xs - l.i) + (length l.ys - l.j)
