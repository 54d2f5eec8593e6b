-- The row of a quantity over a line of arguments.
use Rattle.std.specs.Prelude.{ℕ, ℤ, List}
use Rattle.spec_chebyshev.specs.declared.ends.Ival62.{Ival62}
use Rattle.spec_chebyshev.specs.Differences.{IsArgument}
use Rattle.spec_chebyshev.specs.Rows.{IsArguments, t_row, t_unit, u_unit}
use Rattle.spec_motions.specs.Sums.{slope_row}
use Rattle.spec_bodies.specs.declared.quantity.Quantity.{Quantity}
use Rattle.spec_bodies.specs.declared.quantity.Quantity.TheVariants.{Position, Velocity}
use Rattle.spec_models.specs.Models.{Covers}
use Rattle.spec_covers.specs.Series.{argument_unit, double_unit, of_entry}
use Rattle.event_models.specs.declared.rows.Line.{Line}
use Rattle.event_models.specs.declared.rows.RowModel.{RowModel}
use Rattle.event_models.specs.Rows.{AreEntries, AreSumRows, of_line}

abbrev pub row_unit : Quantity → ℕ
row_unit Position = t_unit
row_unit Velocity = u_unit

abbrev pub row_over : Quantity → Ival62 → ℕ → Ival62
row_over Position x = t_row x
row_over Velocity x = slope_row x

-- the first entries cover those of the row wherever the line covers the argument
abbrev pub AreEntriesOf : Quantity → Line → ℕ → List RowModel → Type 0
AreEntriesOf quantity l count rows = (p q : ℤ) (x : Ival62) → IsArgument p q → IsArguments x
    → Covers (of_line 60 l) p q (of_entry argument_unit x) → Covers (of_line 59 l) p q (of_entry double_unit x)
    → AreEntries (row_unit quantity) p q (row_over quantity x) count rows

-- they serve sums too
pub record AreMade (quantity : Quantity) (l : Line) (count : ℕ) (rows : List RowModel) : Type 0 where
  pub sums : AreSumRows count rows
  pub covers : AreEntriesOf quantity l count rows
