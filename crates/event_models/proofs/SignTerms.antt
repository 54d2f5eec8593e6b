-- A model tells the signs of a term that is a signed square and nothing else, and of each formula that has the term.
use Rattle.std.proofs.Common.{◌≡◌, ◌∙◌, ap, subst, sym, ℕ, ℤ, ◌-ℤ◌, ◌≤ℤ◌, ◌<ℤ◌, Option, None, Some}
use Rattle.std.specs.Prelude.{IfSome}
use Rattle.spec_intervals.specs.Interval.{difference, product, signed_square}
use Rattle.spec_intervals.specs.Signs.{sign_of}
use Rattle.spec_expressions.specs.Term.{HasLeaves, IsFormula, Term}
use Rattle.spec_models.specs.Models.{Model}
use Rattle.spec_bodies.specs.Views.{View, state_enclosure}
use Rattle.spec_searches.specs.Search.{enclosure_over}
use Rattle.spec_covers.specs.Points.{point_of, state_point}
use Rattle.spec_steps.specs.ColumnTerms.{ColumnTerm, of_term, sight_of}
use Rattle.spec_steps.specs.ColumnTerms as terms
use Rattle.spec_steps.specs.Meanings.{point_meant}
use Rattle.column_steps.specs.Listed.{IsMadeAt, Listed, listed_term}
use Rattle.column_steps.specs.Squares.{HasZeroFactor, IsSquareAlone}
use Rattle.event_models.specs.declared.function_model.FunctionModel.{FunctionModel}
use Rattle.event_models.specs.declared.function_model.Told.{Told}
use Rattle.event_models.specs.declared.function_model.Told.TheVariants.{Values, Signs}
use Rattle.event_models.specs.Covered.{IsModelOf, argument}
use Rattle.event_models.specs.Signs.{IsFunctionModel, IsModelOver, TellsOver, TellsSigns}
use Rattle.event_models.proofs.Rests.{rest_taken}
use Rattle.event_models.proofs.Rules.{is_argument}
use Rattle.event_models.proofs.SquareSigns.{square_told}

module _ (v : View) (c : ℤ) where
  of_rest : (t : ℤ) (x rest : ColumnTerm) → HasZeroFactor rest
      → sign_of (point_meant v c t (terms.difference (terms.signed_square x) rest)) ≡ sign_of (signed_square (point_meant v c t x))
  of_rest t x rest has =
      ap (λ r. sign_of (difference (signed_square (point_meant v c t x)) (point_meant v c t r))) has.is
      ∙ (ap (λ r. sign_of (difference (signed_square (point_meant v c t x)) (product (signed_square (point_meant v c t r)) (point_meant v c t has.second)))) has.zero.is
      ∙ rest_taken has.zero.number (signed_square (point_meant v c t x)) (point_meant v c t has.second) has.zero.zero)

  pub signs_of_step : (d : ℤ) → c <ℤ d → (l : Listed) (place x : ℕ) (m : Model) → IsSquareAlone l place x
      → IsModelOf c d m (λ t. point_meant v c t (listed_term l x)) → TellsSigns c d m (λ t. point_meant v c t (listed_term l place))
  signs_of_step d later l place x m alone model t after before g far =
      ap (λ r. sign_of (point_meant v c t r)) alone.is
      ∙ (of_rest t (listed_term l x) alone.rest alone.zero
      ∙ (let own = model t after before in square_told m (argument c d t) (d -ℤ c) (point_meant v c t (listed_term l x)) (is_argument c d t later after before) own.ordered own.covers g far))

-- a model of a term is one of each formula that has the term
module _ (v : View) (c d : ℤ) (l : Listed) (place : ℕ)
    (points : (e : Term) (t : ℤ) → c ≤ℤ t → t ≤ℤ d → HasLeaves e → (enclosure_over (state_enclosure v) e t t).range ≡ point_of (state_point v c t) e)
    (meant : (e : Term) (t : ℤ) → point_meant v c t (of_term (sight_of v) e) ≡ point_of (state_point v c t) e) where
  told_by : (told : Told) (m : Model) → TellsOver c d (λ t. point_meant v c t (listed_term l place)) told m
      → (e : Term) → IsFormula e → IsMadeAt l place (of_term (sight_of v) e) → TellsOver c d (λ t. (enclosure_over (state_enclosure v) e t t).range) told m
  told_by Values m made = λ e formula is t after before.
      rw (points e t after before formula.leaves ∙ sym (meant e t) ∙ sym (ap (point_meant v c t) is.stands.term)) (made t after before)
  told_by Signs m made = λ e formula is t after before g far.
      ap sign_of (points e t after before formula.leaves ∙ sym (meant e t) ∙ sym (ap (point_meant v c t) is.stands.term))
      ∙ made t after before g far

  function_told : (r : Option FunctionModel) → IfSome r (IsModelOver c d (λ t. point_meant v c t (listed_term l place)))
      → IfSome r (IsFunctionModel v c d l place)
  function_told None made = made
  function_told (Some x) made = told_by x.told x.model made

  -- the times as they are passed on
  pub function_told_as : (r : Option FunctionModel) (c' d' : ℤ) → c' ≡ c → d' ≡ d
      → IfSome r (IsModelOver c' d' (λ t. point_meant v c' t (listed_term l place))) → IfSome r (IsFunctionModel v c d l place)
  function_told_as r c' d' first last made =
      function_told r (subst (λ b. IfSome r (IsModelOver c b (λ t. point_meant v c t (listed_term l place)))) last
      (subst (λ a. IfSome r (IsModelOver a d' (λ t. point_meant v a t (listed_term l place)))) first made))
