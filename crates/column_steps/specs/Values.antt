-- Values of terms in slots.
use Rattle.std.specs.Prelude.{ℕ, ◌<◌, List, slice_index_or}
use Rattle.spec_steps.specs.declared.sights.Sight.{Sight}
use Rattle.spec_steps.specs.ColumnTerms.{ColumnTerm}
use Rattle.spec_steps.specs.Parts.{IsPart}
use Rattle.spec_steps.specs.Steps.{term_at}

-- the first n slots hold values of the first n terms
abbrev pub AreValues : {V : Type 0} → (ColumnTerm → V → Type 0) → List ColumnTerm → ℕ → List V → Type 0
AreValues {V} is_value ts n slots = (place : ℕ) → place < n → (d : V) → is_value (term_at ts place) (slice_index_or slots place d)

-- two values are those of the parts of a term that may stand in a list
pub record AreOperands {V : Type 0} (sight : Sight) (is_value : ColumnTerm → V → Type 0) (whole : ColumnTerm → ColumnTerm → ColumnTerm) (x y : V) : Type 0 where
  pub first : ColumnTerm
  pub second : ColumnTerm
  pub part : IsPart sight (whole first second)
  pub of_first : is_value first x
  pub of_second : is_value second y

-- a value is that of the part of such a term
pub record IsOperand {V : Type 0} (sight : Sight) (is_value : ColumnTerm → V → Type 0) (whole : ColumnTerm → ColumnTerm) (x : V) : Type 0 where
  pub operand : ColumnTerm
  pub part : IsPart sight (whole operand)
  pub of_operand : is_value operand x
