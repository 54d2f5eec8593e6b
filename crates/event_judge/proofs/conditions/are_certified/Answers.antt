use Rattle.std.proofs.Common.{◌∙◌, Bool, true, sym}
use Rattle.spec_events.specs.Verdict.{is_certified}
use Rattle.spec_searches.specs.Event.{Condition}
use Rattle.step_enclosures.specs.Moments.{StepMoment}
use Rattle.event_judge.specs.Moments.{finding_in}
use Rattle.event_judge.proofs.Guards.{all_more, found_first, step_of_guard}
use Rattle.event_judge.proofs.conditions.are_certified.Goals as goal

abbrev test : StepMoment → Condition → Bool
test m g = is_certified (finding_in m.moment g)

pub is_certified-requires : goal.is_certified-requires
is_certified-requires c =
    let own = c.index-guards-place.result in
    record { listed = rw (c.loop-place.invariant.same, c.guard_step.ensures) (step_of_guard c.args.made.now.steps c.args.made.now.room c.args.guards.now c.args.listed.now c.loop-place.place c.requires.listed c.loop-place-test.true own own (sym c.index-guards-place.is)) }

pub loop-place-preserved : goal.loop-place-preserved
loop-place-preserved c =
    let own = c.index-guards-place.result in
    record {
      same = c.is_certified.ensures.same ∙ c.loop-place.invariant.same;
      left = all_more (test c.args.made.now) c.args.guards.now c.loop-place.place own c.loop-place-test.true
          (found_first test _ _ c.loop-place.invariant.same own _ c.index-guards-place.is c.is_certified.result true c.is_certified.ensures.certified c.if-not-is_certified.false)
          c.loop-place.invariant.left;
    }
