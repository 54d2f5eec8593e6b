-- The rows of T and U are covered by steps.
use Rattle.std.proofs.Common.{◌≡◌, ℕ, suc, ◌-◌, ◌≤◌, arith, refl, subst, ℤ, pos, neg_ℤ, List, slice_index_or}
use Rattle.spec_chebyshev.specs.declared.ends.Ival62.{Ival62}
use Rattle.spec_chebyshev.specs.Differences.{IsArgument}
use Rattle.spec_chebyshev.specs.Rows.{IsArguments}
use Rattle.spec_models.specs.Models.{Covers}
use Rattle.spec_covers.specs.Series.{double_unit, of_entry}
use Rattle.spec_covers.proofs.Enough.{upto_units}
use Rattle.spec_covers.proofs.Rows.{Covers-t_next, Covers-u_next}
use Rattle.event_models.specs.declared.rows.RowModel.{RowModel}
use Rattle.event_models.specs.declared.rows.Line.{Line}
use Rattle.event_models.specs.declared.rows.Kind.{Kind}
use Rattle.event_models.specs.declared.rows.Kind.TheVariants.{First, Second}
use Rattle.event_models.specs.Rows.{AreEntriesBefore, AreRows, IsAt, IsEntry, IsRow, IsStep, no_row, of_line, of_row, unit}
use Rattle.event_models.proofs.Like.{covers_like}
use Rattle.event_models.proofs.RowSteps.{multiplied_row, multiplies, step_more, step_same, step_unit, stepped_row, subtracts}

module _ (l : Line) (last before made : RowModel) (row : IsRow last) (other : IsRow before) (is : IsStep l last before made)
    (p q : ℤ) (argument : IsArgument p q) (x : Ival62) (arguments : IsArguments x) (line : Covers (of_line 59 l) p q (of_entry double_unit x)) (j : ℕ) where
  stepped : (kind : Kind) → IsAt kind last p q x (suc j) → IsAt kind before p q x j → IsAt kind made p q x (suc (suc j))
  stepped First covers_last covers_before =
      covers_like p q argument _ made.coefficients made.error (neg_ℤ (pos unit)) (step_same unit l last before made row other is) (step_more unit l last before made row other is) (step_unit unit l last before) _
      (Covers-t_next p q argument 1 (of_line 59 l) (of_row unit last) (multiplied_row unit l last before) (of_row unit before) (stepped_row unit l last before) (multiplies unit l last before) (subtracts unit l last before) x arguments line j
      (upto_units (stepped_row unit l last before) 1 1 0 18 (neg_ℤ (pos 60)) (neg_ℤ (pos 60)) refl refl (omega arith)) covers_last covers_before)
  stepped Second covers_last covers_before =
      covers_like p q argument _ made.coefficients made.error (neg_ℤ (pos unit)) (step_same unit l last before made row other is) (step_more unit l last before made row other is) (step_unit unit l last before) _
      (Covers-u_next p q argument 1 (of_line 59 l) (of_row unit last) (multiplied_row unit l last before) (of_row unit before) (stepped_row unit l last before) (multiplies unit l last before) (subtracts unit l last before) x arguments line j
      (upto_units (stepped_row unit l last before) 1 1 0 8 (neg_ℤ (pos 50)) (neg_ℤ (pos 50)) refl refl (omega arith)) covers_last covers_before)

-- ---- the entry after two of a row
pub entry_later : (kind : Kind) (l : Line) (k : ℕ) (rows : List RowModel) (made : RowModel) → 2 ≤ k → AreRows k rows → AreEntriesBefore kind l k rows
    → IsStep l (slice_index_or rows (k - 1) no_row) (slice_index_or rows (k - 2) no_row) made → IsEntry kind l k made
entry_later kind l k rows made two are entries is = λ p q x argument arguments line double.
    let last : k - 1 ≡ suc (k - 2) = omega (arith, two) in
    let own : suc (suc (k - 2)) ≡ k = omega (arith, two) in
    subst (λ (j : ℕ). IsAt kind made p q x j) own
    (stepped l _ _ made (are (k - 1) (omega (arith, two))) (are (k - 2) (omega (arith, two))) is p q argument x arguments double (k - 2) kind
    (subst (λ (j : ℕ). IsAt kind (slice_index_or rows (k - 1) no_row) p q x j) last (entries (k - 1) (omega (arith, two)) p q x argument arguments line double))
    (entries (k - 2) (omega (arith, two)) p q x argument arguments line double))
