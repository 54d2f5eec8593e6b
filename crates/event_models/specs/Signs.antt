-- Models of functions, and those that tell signs alone.
use Rattle.std.specs.Prelude.{◌≡◌, ℕ, ◌*◌, ◌^◌, ◌≤◌, ℤ, ◌≤ℤ◌, ◌-ℤ◌, if◌then◌else◌}
use Rattle.spec_intervals.specs.Fraction.{Fraction}
use Rattle.spec_intervals.specs.Interval.{Interval}
use Rattle.spec_intervals.specs.Signs.{sign_of}
use Rattle.spec_intervals.specs.declared.signs.Sign.TheVariants.{Yes, No}
use Rattle.spec_expressions.specs.Term.{IsFormula, Term}
use Rattle.spec_models.specs.Models.{IsNear, Model, bulk}
use Rattle.spec_bodies.specs.Views.{View, state_enclosure}
use Rattle.spec_searches.specs.Search.{enclosure_over}
use Rattle.spec_steps.specs.ColumnTerms.{ColumnTerm, of_term, sight_of}
use Rattle.column_steps.specs.Listed.{IsMadeAt, Listed}
use Rattle.span_models.specs.declared.margin.Margin.{Margin}
use Rattle.span_models.specs.Margins.{KeepsFrom}
use Rattle.event_models.specs.declared.function_model.FunctionModel.{FunctionModel}
use Rattle.event_models.specs.declared.function_model.Told.{Told}
use Rattle.event_models.specs.declared.function_model.Told.TheVariants.{Values, Signs}
use Rattle.event_models.specs.declared.spans.Span.{Span}
use Rattle.event_models.specs.Covered.{IsModelOf, argument}
use Rattle.event_models.specs.Spans.{term_at}

-- by how much the numbers near a model may be greater than their margin
abbrev pub greatest_ratio : ℕ
greatest_ratio = 2 ^ 30

-- all numbers near the model at p / q keep the margin from 0, and none is so many times as great
pub record KeepFar (m : Model) (p q : ℤ) (g : Margin) : Type 0 where
  pub keep : (r : Fraction) → IsNear m p q r → KeepsFrom g r
  pub unit : g.exponent ≡ m.exponent
  pub far : bulk m ≤ g.size * greatest_ratio

-- if they do, their side of 0 tells the sign of an interval
abbrev pub TellsSign : Model → ℤ → ℤ → Interval → Type 0
TellsSign m p q x = (g : Margin) → KeepFar m p q g → sign_of x ≡ (if g.is_above then Yes else No)

-- it tells the signs of the intervals at each time from c to d
abbrev pub TellsSigns : ℤ → ℤ → Model → (ℤ → Interval) → Type 0
TellsSigns c d m f = (t : ℤ) → c ≤ℤ t → t ≤ℤ d → TellsSign m (argument c d t) (d -ℤ c) (f t)

-- a model of a function's intervals: it covers that at each time from c to d, or tells its sign
abbrev pub TellsOver : ℤ → ℤ → (ℤ → Interval) → Told → Model → Type 0
TellsOver c d f Values m = IsModelOf c d m f
TellsOver c d f Signs m = TellsSigns c d m f

abbrev pub IsModelOver : ℤ → ℤ → (ℤ → Interval) → FunctionModel → Type 0
IsModelOver c d f made = TellsOver c d f made.told made.model

-- of a term
abbrev pub IsStepModel : Span → ColumnTerm → FunctionModel → Type 0
IsStepModel s x = IsModelOver s.times.first s.times.last (term_at s x)

-- of each formula that a step stands for, enclosed over each time alone
abbrev pub IsFunctionModel : View → ℤ → ℤ → Listed → ℕ → FunctionModel → Type 0
IsFunctionModel v c d l place made = (e : Term) → IsFormula e → IsMadeAt l place (of_term (sight_of v) e)
    → IsModelOver c d (λ t. (enclosure_over (state_enclosure v) e t t).range) made
