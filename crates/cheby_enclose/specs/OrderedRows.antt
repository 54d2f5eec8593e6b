-- Rows whose ends are in order.
use Rattle.std.specs.Prelude.{ℕ, suc, ◌<◌, List, ◌≤ℤ◌}
use Rattle.spec_chebyshev.specs.declared.ends.Ival62.{Ival62}
use Rattle.spec_chebyshev.specs.Rows.{entry}

-- the first n entries of a row have their ends in order
abbrev pub IsOrderedRow : List Ival62 → ℕ → Type 0
IsOrderedRow row n = (k : ℕ) → k < n → (entry row k).lo ≤ℤ (entry row k).hi

-- the first entries have, one less than n
abbrev pub IsOrderedShorterRow : List Ival62 → ℕ → Type 0
IsOrderedShorterRow row n = (k : ℕ) → suc k < n → (entry row k).lo ≤ℤ (entry row k).hi
