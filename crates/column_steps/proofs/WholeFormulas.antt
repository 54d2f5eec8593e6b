-- The value of a formula, by those of its parts.
use Rattle.std.proofs.Common.{◌≡◌, inr, refl, subst, sym}
use Rattle.spec_expressions.specs.Term.{IsFormula, IsLeaf, Leaf, Term, leaf}
use Rattle.spec_steps.specs.declared.sights.Sight.{Sight}
use Rattle.spec_steps.specs.ColumnTerms.{ColumnTerm, of_leaf, of_term}
use Rattle.spec_steps.specs.Parts.{IsPart}
use Rattle.column_steps.specs.declared.places.CoordinateTable.{CoordinateTable}
use Rattle.column_steps.specs.Places.{AreNamedValues, entry_of}
use Rattle.column_steps.specs.Values.{AreOperands, IsOperand}

module _ {V : Type 0} (is_value : ColumnTerm → V → Type 0) (s : Sight) where
  -- of a coordinate, by the values of what a formula names
  pub leaf_valued : (values : CoordinateTable V) (l : Leaf) (r : V) → r ≡ entry_of values l → IsLeaf l → AreNamedValues is_value s values (leaf l) → is_value (of_leaf s l) r
  leaf_valued values l r same is are = subst (is_value (of_leaf s l)) (sym same) (are l is refl)

  -- of two parts
  module _ (whole : ColumnTerm → ColumnTerm → ColumnTerm) (of : Term → Term → Term) (law : (d e : Term) → of_term s (of d e) ≡ whole (of_term s d) (of_term s e))
      (d e : Term) (x y : V) (formula : IsFormula (of d e)) (first : is_value (of_term s d) x) (second : is_value (of_term s e) y) where
    both_part : IsPart s (whole (of_term s d) (of_term s e))
    both_part = subst (IsPart s) (law d e) (inr (record { whole = of d e; formula = formula; term = refl }))

    pub both_operands : AreOperands s is_value whole x y
    both_operands = record { first = of_term s d; second = of_term s e; part = both_part; of_first = first; of_second = second }

    pub both_value : (r : V) → ((p q : ColumnTerm) → IsPart s (whole p q) → is_value p x → is_value q y → is_value (whole p q) r) → is_value (of_term s (of d e)) r
    both_value r rule = subst (λ (t : ColumnTerm). is_value t r) (sym (law d e)) (rule _ _ both_part first second)

  -- of one
  module _ (whole : ColumnTerm → ColumnTerm) (of : Term → Term) (law : (d : Term) → of_term s (of d) ≡ whole (of_term s d))
      (d : Term) (x : V) (formula : IsFormula (of d)) (first : is_value (of_term s d) x) where
    one_part : IsPart s (whole (of_term s d))
    one_part = subst (IsPart s) (law d) (inr (record { whole = of d; formula = formula; term = refl }))

    pub one_operand : IsOperand s is_value whole x
    one_operand = record { operand = of_term s d; part = one_part; of_operand = first }

    pub one_value : (r : V) → ((p : ColumnTerm) → IsPart s (whole p) → is_value p x → is_value (whole p) r) → is_value (of_term s (of d)) r
    one_value r rule = subst (λ (t : ColumnTerm). is_value t r) (sym (law d)) (rule _ one_part first)
