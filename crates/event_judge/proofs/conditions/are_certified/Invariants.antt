use Rattle.std.proofs.Common.{◌≡◌, drop}
use Rattle.std.specs.List.{list_all}
use Rattle.spec_events.specs.Verdict.{is_certified}
use Rattle.event_judge.specs.Moments.{finding_in}
use Rattle.event_judge.proofs.conditions.are_certified.Given as goal

abbrev pub invariant-loop-place : goal.invariant-loop-place
invariant-loop-place l = record {
  same : l.made ≡ l.fn.made;
  left : list_all (λ g. is_certified (finding_in l.fn.made.moment g)) l.guards ≡ list_all (λ g. is_certified (finding_in l.fn.made.moment g)) (drop l.place l.guards);
}
