use Rattle.std.proofs.Common.{arith, pos}
use Rattle.spec_intervals.specs.Fraction.{fraction}
use Rattle.value_cases.proofs.intervals.next_intersection.Goals as goal

-- both intervals hold 0
pub meet-requires-clause-overlap : goal.meet-requires-clause-overlap
meet-requires-clause-overlap c = record {
  common = fraction (pos 0) 1;
  is_fraction = omega arith;
  in_first = c.in_ok-first.ensures.zero;
  in_second = c.in_ok-second.ensures.zero;
}
