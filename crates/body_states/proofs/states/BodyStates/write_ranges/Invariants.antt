use Rattle.std.proofs.Common.{◌≡◌, false, length}
use Rattle.body_states.specs.Ranges.{asked_of}
use Rattle.body_states.proofs.Entries.{EnteredBefore}
use Rattle.body_states.proofs.states.BodyStates.write_ranges.Given as goal

abbrev pub invariant-loop-place : goal.invariant-loop-place
invariant-loop-place l = EnteredBefore false (asked_of l.fn.self l.fn.question) l.place l.columns × (length l.columns ≡ 4)
