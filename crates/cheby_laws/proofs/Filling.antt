-- A row is written up to an entry, with the last two entries at hand.
use Rattle.std.proofs.Common.{◌≡◌, ℕ, ◌-◌, ◌<◌, ◌≤◌, List, length}
use Rattle.spec_chebyshev.specs.declared.ends.Ival62.{Ival62}
use Rattle.spec_chebyshev.specs.Rows.{entry}

pub record IsFilled (exact : ℕ → Ival62) (k n : ℕ) (before last : Ival62) (written old : List Ival62) : Type 0 where
  pub len : length written ≡ 32
  pub last_is : last ≡ exact (k - 1)
  pub before_is : before ≡ exact (k - 2)
  pub row : (j : ℕ) → j < k → j < n → entry written j ≡ exact j
  pub rest : (j : ℕ) → n ≤ j → entry written j ≡ entry old j
