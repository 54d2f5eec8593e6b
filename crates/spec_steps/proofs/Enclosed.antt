-- The enclosures of what may stand in a list.
use Rattle.std.proofs.Common.{◌≤◌, ℕ, inl, inr, sym, subst, arith, ℤ}
use Rattle.spec_intervals.specs.Enclosure.{AllWithin, Encloses, Enclosure}
use Rattle.spec_intervals.proofs.Exponents.{IsWithin-more}
use Rattle.spec_expressions.specs.Term.{IsFormula, IsLeaf, Leaf, Term, exact_of, leaf_exponent, part_exponent}
use Rattle.spec_expressions.proofs.Induction.{AllFractions-of, IsEnclosure-of}
use Rattle.spec_expressions.proofs.Reach.{AllWithin-of}
use Rattle.spec_bodies.specs.Views.{Fits, View, exact_state, state_enclosure}
use Rattle.spec_bodies.proofs.Held.{formula_encloses, formula_within, fractions_of_states, states_held, states_within, times_span}
use Rattle.spec_searches.specs.Search.{enclosure_over}
use Rattle.spec_steps.specs.ColumnTerms.{ColumnTerm, sight_of}
use Rattle.spec_steps.specs.Meanings.{enclosure_meant}
use Rattle.spec_steps.specs.Parts.{IsPart}
use Rattle.spec_steps.proofs.Meanings.{coordinate_enclosed, term_enclosed}
use Rattle.spec_steps.proofs.Within.{readable}

further : (m n : ℕ) (e : Enclosure) → m ≤ n → AllWithin m e → AllWithin n e
further m n e p is = record { mid = IsWithin-more m n e.mid p is.mid; range = IsWithin-more m n e.range p is.range; step = IsWithin-more m n e.step p is.step }

module _ (v : View) (a b : ℤ) (fits : Fits v a b) where
  -- within the limits of the rules, of some value
  abbrev IsGood : Enclosure → Type 0
  IsGood e = AllWithin part_exponent e × Encloses a b e

  leaves : (l : Leaf) → IsLeaf l → AllWithin leaf_exponent (state_enclosure v l a b)
  leaves l is = further 256 leaf_exponent _ (omega arith) (states_within v a b fits l is)

  of_formula : (e : Term) → IsFormula e → IsGood (enclosure_over (state_enclosure v) e a b)
  of_formula e is = (
    AllWithin-of a b (times_span v a b fits) (λ l. state_enclosure v l a b) leaves e is,
    record {
      exact = exact_of (exact_state v) e;
      numbers = AllFractions-of (exact_state v) a b (fractions_of_states v a b fits) e is.leaves;
      is_enclosure = IsEnclosure-of (exact_state v) a b (fractions_of_states v a b fits) fits.ordered (λ l. state_enclosure v l a b) (states_held v a b fits) e is.leaves;
    },
  )

  pub listed-good : (t : ColumnTerm) → IsPart (sight_of v) t → IsGood (enclosure_meant v a b t)
  listed-good t (inl part) =
      let all = readable v a b fits part.coordinate part.seen in
      subst (λ t. IsGood (enclosure_meant v a b t)) part.term (subst IsGood (sym (coordinate_enclosed v a b part.quantity part.coordinate)) (
        further 256 part_exponent _ (omega arith) (formula_within v a b fits part.quantity part.coordinate all part.seen.short),
        formula_encloses v a b fits part.quantity part.coordinate all,
      ))
  listed-good t (inr part) = subst (λ t. IsGood (enclosure_meant v a b t)) part.term (subst IsGood (sym (term_enclosed v a b part.whole)) (of_formula part.whole part.formula))
