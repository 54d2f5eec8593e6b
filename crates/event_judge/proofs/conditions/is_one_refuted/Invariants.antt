use Rattle.std.proofs.Common.{◌≡◌, drop}
use Rattle.std.specs.List.{list_any}
use Rattle.spec_events.specs.Verdict.{is_refuted}
use Rattle.event_judge.specs.Moments.{finding_in}
use Rattle.event_judge.proofs.conditions.is_one_refuted.Given as goal

abbrev pub invariant-loop-place : goal.invariant-loop-place
invariant-loop-place l = record {
  same : l.made ≡ l.fn.made;
  left : list_any (λ g. is_refuted (finding_in l.fn.made.moment g)) l.guards ≡ list_any (λ g. is_refuted (finding_in l.fn.made.moment g)) (drop l.place l.guards);
}
