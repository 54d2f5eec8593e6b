-- The entries of the row of k U_(k-1), at each argument that a line covers.
use Rattle.std.specs.Prelude.{◌≡◌, ℕ, ◌*◌, ◌<◌, List, replicate, slice_index_or, ℤ, pos}
use Rattle.spec_chebyshev.specs.declared.ends.Ival62.{Ival62}
use Rattle.spec_chebyshev.specs.Differences.{IsArgument}
use Rattle.spec_chebyshev.specs.Rows.{IsArguments, u_unit}
use Rattle.spec_motions.specs.Sums.{slope_row}
use Rattle.spec_covers.specs.Series.{argument_unit, double_unit, of_entry}
use Rattle.spec_models.specs.Models.{Covers, multiplied}
use Rattle.event_models.specs.declared.rows.RowModel.{RowModel}
use Rattle.event_models.specs.declared.rows.Line.{Line}
use Rattle.event_models.specs.Rows.{no_row, of_line, of_row, terms, unit}

-- ---- the first of them is 0
abbrev pub IsEntrySlope : Line → ℕ → RowModel → Type 0
IsEntrySlope l k made = (p q : ℤ) (x : Ival62) → IsArgument p q → IsArguments x → Covers (of_line 60 l) p q (of_entry argument_unit x)
    → Covers (of_line 59 l) p q (of_entry double_unit x) → Covers (of_row unit made) p q (of_entry u_unit (slope_row x k))

abbrev pub AreEntriesSlope : Line → ℕ → List RowModel → Type 0
AreEntriesSlope l n rows = (k : ℕ) → k < n → IsEntrySlope l k (slice_index_or rows k no_row)

-- ---- k times an entry
pub record IsMultiple (k : ℕ) (r made : RowModel) : Type 0 where
  pub numbers : made.coefficients ≡ multiplied (pos k) r.coefficients
  pub error : made.error ≡ k * r.error

-- ---- 0
pub record IsNothing (made : RowModel) : Type 0 where
  pub numbers : made.coefficients ≡ replicate terms (pos 0)
  pub error : made.error ≡ 0
