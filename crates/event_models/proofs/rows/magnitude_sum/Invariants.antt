use Rattle.std.proofs.Common.{◌≡◌, ◌+◌, ◌*◌, ◌≤◌, drop}
use Rattle.spec_models.specs.Models.{sizes}
use Rattle.event_models.specs.Rows.{row_limit}
use Rattle.event_models.proofs.rows.magnitude_sum.Given as goal

abbrev pub invariant-loop-k : goal.invariant-loop-k
invariant-loop-k l = record {
  sum : l.sum + sizes (drop l.k l.numbers) ≡ sizes l.numbers;
  size : l.sum ≤ l.k * row_limit;
}
