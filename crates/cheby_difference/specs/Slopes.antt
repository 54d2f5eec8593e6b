-- Rows of slopes.
use Rattle.std.specs.Prelude.{ℕ, suc, List}
use Rattle.spec_chebyshev.specs.declared.ends.Ival62.{Ival62}
use Rattle.spec_motions.specs.RowSizes.{IsShorterRow}
use Rattle.spec_motions.specs.Sums.{times}

-- the first entries of a row, one less than n, are X_0, 2 X_1, 3 X_2 and so on
abbrev pub AreSlopes : ℕ → List Ival62 → (ℕ → Ival62) → Type 0
AreSlopes n row exact = IsShorterRow n row (λ k. times (suc k) (exact k))
