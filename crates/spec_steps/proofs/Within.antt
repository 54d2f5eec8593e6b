-- The exponents of the bounds of what may stand in a list.
use Rattle.std.proofs.Common.{inl, inr, sym, subst, arith, ℤ}
use Rattle.spec_intervals.proofs.Exponents.{IsWithin-more}
use Rattle.spec_expressions.specs.Term.{leaf_exponent, part_exponent}
use Rattle.spec_bodies.specs.Coordinates.{Coordinate}
use Rattle.spec_bodies.specs.Reading.{AllColumns, IsReadable}
use Rattle.spec_bodies.specs.Views.{Fits, View}
use Rattle.spec_bodies.proofs.Formulas.{all_columns}
use Rattle.spec_models.specs.Bounds.{Bound}
use Rattle.spec_bounds.specs.Limits.{IsBoundWithin}
use Rattle.spec_bounds.proofs.Within.{coordinate-within, formula-within}
use Rattle.spec_steps.specs.ColumnTerms.{ColumnTerm, sight_of}
use Rattle.spec_steps.specs.Meanings.{bound_meant}
use Rattle.spec_steps.specs.Parts.{IsCoordinatePart, IsFormulaPart, IsPart, IsSeen, IsSeenColumn}
use Rattle.spec_steps.proofs.Meanings.{coordinate_bounded, term_bounded}
use Rattle.spec_steps.proofs.Parts.{seen_readable}

further : (p : Bound) → IsBoundWithin leaf_exponent p → IsBoundWithin part_exponent p
further p is = record {
  range = IsWithin-more leaf_exponent part_exponent p.range (omega arith) is.range;
  step = IsWithin-more leaf_exponent part_exponent p.step (omega arith) is.step;
}

module _ (v : View) (a b : ℤ) (fits : Fits v a b) where
  abbrev IsListed : ColumnTerm → Type 0
  IsListed t = IsBoundWithin part_exponent (bound_meant v a b t)

  pub readable : (c : Coordinate) → IsSeen (sight_of v) c → AllColumns (IsReadable v) c
  readable c seen = all_columns (IsSeenColumn (sight_of v)) (IsReadable v) (λ number axis is. seen_readable v number axis fits.view is) c seen.columns

  of_coordinates : (t : ColumnTerm) → IsCoordinatePart (sight_of v) t → IsListed t
  of_coordinates t part =
      subst IsListed part.term
      (subst (IsBoundWithin part_exponent) (sym (coordinate_bounded v a b part.quantity part.coordinate))
      (further _ (coordinate-within v a b fits part.quantity part.coordinate (readable part.coordinate part.seen) part.seen.short)))

  of_formulas : (t : ColumnTerm) → IsFormulaPart (sight_of v) t → IsListed t
  of_formulas t part =
      subst IsListed part.term
      (subst (IsBoundWithin part_exponent) (sym (term_bounded v a b part.whole)) (formula-within v part.whole a b part.formula fits))

  pub listed-within : (t : ColumnTerm) → IsPart (sight_of v) t → IsListed t
  listed-within t (inl part) = of_coordinates t part
  listed-within t (inr part) = of_formulas t part
