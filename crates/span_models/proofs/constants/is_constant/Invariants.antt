use Rattle.std.proofs.Common.{◌≡◌, ℕ, suc, ◌<◌, ◌≤◌, get_or, pos}
use Rattle.span_models.proofs.constants.is_constant.Given as goal

abbrev pub invariant-loop-k : goal.invariant-loop-k
invariant-loop-k l = record {
  some : 1 ≤ l.k;
  none : (j : ℕ) → suc j < l.k → get_or l.a (suc j) (pos 0) ≡ pos 0;
}
