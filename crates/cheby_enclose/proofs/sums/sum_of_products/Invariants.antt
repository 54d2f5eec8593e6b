use Rattle.std.proofs.Common.{◌≡◌, ◌≤◌, length, drop, map, ◌+ℤ◌, unsigned_abs}
use Rattle.spec_chebyshev.specs.Rows.{entry}
use Rattle.spec_motions.specs.Sums.{sum_low, sum_high}
use Rattle.spec_motions.specs.RowSizes.{entry_size}
use Rattle.spec_motions.specs.Pairs.{term_of}
use Rattle.cheby_enclose.specs.ProductSizes.{product_sizes}
use Rattle.cheby_enclose.proofs.sums.sum_of_products.Given as goal

abbrev pub invariant-loop-k : goal.invariant-loop-k
invariant-loop-k l = record {
  lo : l.sum.lo +ℤ sum_low (entry l.row) l.k (drop l.k (map term_of l.pairs)) ≡ sum_low (entry l.row) 0 (map term_of l.pairs);
  hi : l.sum.hi +ℤ sum_high (entry l.row) l.k (drop l.k (map term_of l.pairs)) ≡ sum_high (entry l.row) 0 (map term_of l.pairs);
  lo_size : unsigned_abs l.sum.lo ≤ product_sizes (entry_size l.row) l.k;
  hi_size : unsigned_abs l.sum.hi ≤ product_sizes (entry_size l.row) l.k;
  within : l.k ≤ length l.pairs;
}
