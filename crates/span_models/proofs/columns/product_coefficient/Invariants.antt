use Rattle.std.proofs.Common.{◌≡◌, ◌*◌, ◌^◌, ◌≤◌, unsigned_abs}
use Rattle.spec_models.specs.Models.{products_upto}
use Rattle.span_models.proofs.columns.product_coefficient.Given as goal

abbrev pub invariant-loop-i : goal.invariant-loop-i
invariant-loop-i l = record {
  sum : l.sum ≡ products_upto l.i l.k l.a l.b;
  size : unsigned_abs l.sum ≤ l.i * 2 ^ 120;
}
