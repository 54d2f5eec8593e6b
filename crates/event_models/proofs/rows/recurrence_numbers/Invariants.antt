use Rattle.std.proofs.Common.{◌≡◌, ℕ, ◌<◌, length, slice_index_or, pos}
use Rattle.event_models.specs.Rows.{step_number, terms}
use Rattle.event_models.proofs.rows.recurrence_numbers.Given as goal

abbrev pub invariant-loop-k : goal.invariant-loop-k
invariant-loop-k l = record {
  count : length l.numbers ≡ terms;
  numbers : (j : ℕ) → j < l.k → slice_index_or l.numbers j (pos 0) ≡ step_number l.line l.last.coefficients l.before.coefficients j;
}
