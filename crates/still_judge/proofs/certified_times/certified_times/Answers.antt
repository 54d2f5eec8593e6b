use Rattle.std.proofs.Common.{rules, w64}
use Rattle.std.proofs.lemmas.Int.{to_z-of_z}
use Rattle.std.specs.Prelude.{is_ok}
use mir.Val.{SFits}
use Rattle.still_judge.proofs.EndSigns.{time_pushed}
use Rattle.still_judge.proofs.certified_times.certified_times.Goals.{then-is_turn_certified+in_ok-push, else-is_turn_certified}
use Rattle.still_judge.proofs.certified_times.certified_times.Goals as goal

pub loop-place-preserved : goal.loop-place-preserved
loop-place-preserved c =
    let time = c.span_at-after.result.from in
    let fits : SFits w64 time = search rules in
    elim c.if-is_turn_certified.branch [
      | then-is_turn_certified+in_ok-push w ↦
          rw w.times-is
          (time_pushed c.args.search.now (is_ok w.push.result) c.loop-place.times.items w.push.new.self.items time _ w.push.ensures.items
          (to_z-of_z w64 time fits) c.loop-place.invariant (c.is_turn_certified.ensures w.if-is_turn_certified.true))
      | else-is_turn_certified w ↦ rw w.times-is c.loop-place.invariant
    ]
