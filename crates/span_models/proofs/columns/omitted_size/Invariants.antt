use Rattle.std.proofs.Common.{◌≡◌, ◌+◌, ◌-◌, ◌*◌, ◌^◌, ◌≤◌, drop}
use Rattle.spec_models.specs.Models.{sizes}
use Rattle.span_models.specs.Sizes.{terms}
use Rattle.span_models.specs.Columns.{tail_sizes}
use Rattle.span_models.proofs.columns.omitted_size.Given as goal

abbrev pub invariant-loop-i : goal.invariant-loop-i
invariant-loop-i l = record {
  back : l.back ≡ sizes (drop (terms - l.i) l.b);
  sum : l.sum + tail_sizes (drop l.i l.a) l.b (terms - l.i) ≡ tail_sizes l.a l.b terms;
  few : l.back ≤ l.i * 2 ^ 60;
  size : l.sum ≤ l.i * (terms * 2 ^ 120);
}
