use Rattle.std.proofs.Common.{ℕ, ◌<◌, ◌≤◌, get_or, pos, unsigned_abs}
use Rattle.span_models.proofs.settling.magnitude_bound.Given as goal

abbrev pub invariant-loop-i : goal.invariant-loop-i
invariant-loop-i l = record {
  error : l.error ≤ l.size;
  coefficients : (k : ℕ) → k < l.i → unsigned_abs (get_or l.wide k (pos 0)) ≤ l.size;
}
