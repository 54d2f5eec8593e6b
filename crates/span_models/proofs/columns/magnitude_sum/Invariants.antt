use Rattle.std.proofs.Common.{◌≡◌, ◌+◌, ◌*◌, ◌^◌, ◌≤◌, drop}
use Rattle.spec_models.specs.Models.{sizes}
use Rattle.span_models.proofs.columns.magnitude_sum.Given as goal

abbrev pub invariant-loop-i : goal.invariant-loop-i
invariant-loop-i l = record {
  sum : l.sum + sizes (drop l.i l.a) ≡ sizes l.a;
  size : l.sum ≤ l.i * 2 ^ 60;
}
