use Rattle.std.proofs.Common.{◌∙◌, ◌<◌, true, ap, arith, length, slice_index_or}
use Rattle.std.proofs.lemmas.List.{length-set}
use Rattle.spec_bodies.proofs.InUse.{usable_numbers}
use Rattle.body_states.specs.Ranges.{asked_of}
use Rattle.body_states.proofs.Entries.{turn_below, written_with, written_without}
use Rattle.body_states.proofs.states.BodyStates.write_wanted.Goals as goal
use Rattle.body_states.proofs.states.BodyStates.write_wanted.Goals.{then-writing_turn-turn, else-writing_turn-turn}

pub write_entry-requires-clause-usable : goal.write_entry-requires-clause-usable
write_entry-requires-clause-usable c =
    let below = c.place_at-place.ensures.below in
    let count = c.min-count.ensures in
    usable_numbers c.args.self.now c.columns-numbers.ensures.view _ c.columns-numbers.ensures.in_use c.place_at-place.result 0 (omega (arith, below, count))

pub loop-turn-preserved : goal.loop-turn-preserved
loop-turn-preserved c =
    let q = asked_of c.args.self.now c.args.question.now in
    let own = c.place_at-place.ensures in
    let below = own.below in
    let count = c.min-count.ensures in
    let before = c.loop-turn.invariant.0 in
    let long = c.loop-turn.invariant.1 in
    let inside : c.place_at-place.result < length c.loop-turn.columns = omega (arith, below, count, long) in
    elim c.if-writing_turn-turn.branch [
      | then-writing_turn-turn w ↦
          let is = rw c.columns-numbers.ensures.in_use at w.write_entry.ensures.entry in
          rw (w.columns-is, w.room-is) (
            written_with true q c.min-count.result c.entries-entries.result.now c.loop-turn.turn c.place_at-place.result own.first own.second c.loop-turn.columns before _ inside is,
            length-set c.loop-turn.columns _ _ ∙ long,
            w.write_entry.ensures.kept,
          )
      | else-writing_turn-turn w ↦
          rw (w.columns-is, w.room-is) (
            written_without true q c.min-count.result c.entries-entries.result.now c.loop-turn.turn c.place_at-place.result own.first own.second c.loop-turn.columns before
                (λ same. w.if-writing_turn-turn.false (c.writing_turn.ensures ∙ same)),
            long,
            c.loop-turn.invariant.2,
          )
    ]

pub returns-clause-entries : goal.returns-clause-entries
returns-clause-entries c = λ place listed kept.
    let same = ap length c.columns-numbers.ensures.in_use in
    let count = c.min-count.ensures in
    let below : place < c.min-count.result = omega (arith, listed, kept, same, count) in
    let sooner = turn_below c.min-count.result (slice_index_or c.entries-entries.result.now place 0) place below in
    let end = c.loop-turn-test.false in
    c.loop-turn.invariant.0 place below (omega (arith, sooner, end))
