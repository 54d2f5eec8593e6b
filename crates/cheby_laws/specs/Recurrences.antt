-- What the rows of the polynomials and of their divided differences have in common.
use Rattle.std.specs.Prelude.{◌≡◌, ℕ, ◌-◌, ◌^◌, ◌<◌, ◌≤◌, ◌≤ℤ◌}
use Rattle.spec_chebyshev.specs.declared.ends.Ival62.{Ival62}
use Rattle.spec_chebyshev.specs.Rows.{EndsWithin, IsArguments, next}

-- Entry k of a row is 2 x e_(k-1) + extra - e_(k-2), cut to a limit; what is extra is made of entry k - 1 of a row beside it.
pub record IsRecurrence (entries beside : Ival62 → ℕ → Ival62) (extra : Ival62 → Ival62) (limit : ℕ → ℕ) : Type 0 where
  pub step : (x : Ival62) (k : ℕ) → 2 ≤ k → next (limit k) x (entries x (k - 1)) (extra (beside x (k - 1))) (entries x (k - 2)) ≡ entries x k
  pub within : (x : Ival62) → IsArguments x → (k : ℕ) → k < 32 → EndsWithin (2 ^ 60) (entries x k)
  pub ordered : (x : Ival62) → IsArguments x → (k : ℕ) → (entries x k).lo ≤ℤ (entries x k).hi
  pub beside_within : (x : Ival62) → IsArguments x → (k : ℕ) → k < 32 → EndsWithin (2 ^ 60) (beside x k)
  pub extra_within : (e : Ival62) → EndsWithin (2 ^ 60) e → EndsWithin (2 ^ 60) (extra e)
  pub limit_within : (k : ℕ) → k < 32 → limit k ≤ 2 ^ 60
