use Rattle.std.proofs.Common.{◌≡◌, ℕ, suc, ◌<◌, ◌≤◌, length}
use Rattle.spec_chebyshev.specs.Rows.{entry}
use Rattle.spec_motions.specs.Sums.{times}
use Rattle.cheby_difference.proofs.slopes.multiply_by_degrees.Given as goal

abbrev pub invariant-loop-k : goal.invariant-loop-k
invariant-loop-k l = record {
  len : length l.row ≡ 32;
  done : (j : ℕ) → j < l.k → entry l.row j ≡ times (suc j) (entry l.fn.row j);
  rest : (j : ℕ) → l.k ≤ j → entry l.row j ≡ entry l.fn.row j;
}
