use Rattle.std.proofs.Common.{◌≡◌, true, length}
use Rattle.granule_values.specs.Bases.{AreKept}
use Rattle.body_states.specs.Ranges.{asked_of}
use Rattle.body_states.proofs.Entries.{WrittenBefore}
use Rattle.body_states.proofs.states.BodyStates.write_wanted.Given as goal

abbrev pub invariant-loop-turn : goal.invariant-loop-turn
invariant-loop-turn l =
    WrittenBefore true (asked_of l.fn.self l.fn.question) l.count l.entries l.turn l.columns
    × (length l.columns ≡ 4)
    × AreKept l.fn.question l.room
