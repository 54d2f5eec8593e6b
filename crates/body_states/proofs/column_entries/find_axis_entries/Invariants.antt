use Rattle.std.proofs.Common.{◌≡◌, ◌<◌, ℕ, slice_index_or}
use Rattle.body_states.specs.Ranges.{nothing_entered}
use Rattle.body_states.proofs.column_entries.find_axis_entries.Given as goal

abbrev pub invariant-loop-place : goal.invariant-loop-place
invariant-loop-place l = (place : ℕ) → place < l.place → (slice_index_or l.fn.columns place nothing_entered).number ≡ l.fn.number → ⊥
