use Rattle.std.proofs.Common.{◌≤ℤ◌, ◌-ℤ◌}
use Rattle.spec_ephemeris.specs.Series.{to_nat}
use Rattle.still_spans.specs.Found.{AreFound}
use Rattle.still_spans.proofs.walk.still_spans_between.Given as goal

abbrev pub invariant-loop-here : goal.invariant-loop-here
invariant-loop-here l = record {
  found : AreFound l.search l.from l.walk.found.items l.here;
  from : l.search.view.ephemeris.start ≤ℤ l.here;
}

abbrev pub decreases-loop-here : goal.decreases-loop-here
decreases-loop-here l = to_nat (l.upto -ℤ l.here)
