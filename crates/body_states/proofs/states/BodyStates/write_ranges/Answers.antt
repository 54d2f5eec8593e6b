use Rattle.std.proofs.Common.{◌∙◌, ◌<◌, ap, arith, false, length}
use Rattle.std.proofs.lemmas.List.{length-set}
use Rattle.spec_bodies.proofs.InUse.{usable_numbers}
use Rattle.body_states.specs.Ranges.{asked_of}
use Rattle.body_states.proofs.Entries.{entered_next}
use Rattle.body_states.proofs.states.BodyStates.write_ranges.Goals as goal

pub write_range-requires-clause-usable : goal.write_range-requires-clause-usable
write_range-requires-clause-usable c =
    let test = c.loop-place-test.true in
    let count = c.min-count.ensures in
    usable_numbers c.args.self.now c.columns-numbers.ensures.view _ c.columns-numbers.ensures.in_use c.loop-place.place 0 (omega (arith, test, count))

pub loop-place-preserved : goal.loop-place-preserved
loop-place-preserved c =
    let test = c.loop-place-test.true in
    let count = c.min-count.ensures in
    let long = c.loop-place.invariant.1 in
    let inside : c.loop-place.place < length c.loop-place.columns = omega (arith, test, count, long) in (
      entered_next false (asked_of c.args.self.now c.args.question.now) c.loop-place.columns c.loop-place.place _ inside c.loop-place.invariant.0
          (rw c.columns-numbers.ensures.in_use at c.write_range.ensures),
      length-set c.loop-place.columns _ _ ∙ long,
    )

pub returns-clause-entries : goal.returns-clause-entries
returns-clause-entries c = λ any place listed kept.
    let same = ap length c.columns-numbers.ensures.in_use in
    let count = c.min-count.ensures in
    let end = c.loop-place-test.false in
    c.loop-place.invariant.0 place (omega (arith, listed, kept, same, count, end))
