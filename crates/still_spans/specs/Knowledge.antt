-- What is known of the function of a search over times of one granule.
use Rattle.std.specs.Prelude.{◌≡◌, true, if◌then◌else◌, ℤ, pos, ◌-ℤ◌, ◌*ℤ◌, ◌≤ℤ◌, ◌<ℤ◌}
use Rattle.spec_intervals.specs.Fraction.{Fraction}
use Rattle.spec_intervals.specs.declared.signs.Sign.{Sign}
use Rattle.spec_intervals.specs.declared.signs.Sign.TheVariants.{Yes, No}
use Rattle.spec_bodies.specs.Views.{Fits}
use Rattle.spec_searches.specs.Search.{IsSearch, Search}
use Rattle.spec_stills.specs.Margins.{range_at}
use Rattle.spec_bounds.specs.Terms.{bound_over}
use Rattle.spec_models.specs.Models.{Model, Covers, IsNear}
use Rattle.spec_events.specs.Verdict.{is_known}
use Rattle.spec_bounds.specs.Steady.{sign_at}
use Rattle.event_bounds.specs.Made.{IsBound}
use Rattle.span_models.specs.declared.margin.Margin.{Margin}
use Rattle.span_models.specs.Margins.{KeepsFrom}
use Rattle.event_models.specs.declared.function_model.FunctionModel.{FunctionModel}
use Rattle.event_models.specs.Signs.{IsModelOver, TellsSign}
use Rattle.still_spans.specs.declared.knowledge.Knowledge.{Knowledge}
use Rattle.still_spans.specs.declared.knowledge.Knowledge.TheVariants.{Values, Signs}
use Rattle.still_spans.specs.declared.known.Known.{Known}
use Rattle.still_spans.specs.declared.span_bound.SpanBound.{SpanBound}

-- a time as an argument over the times from c to d
abbrev pub argument_of : ℤ → ℤ → ℤ → ℤ
argument_of c d t = (pos 2 *ℤ t -ℤ c) -ℤ d

-- the model covers the interval of the function at each of the times from c to d
abbrev pub CoversAll : Search → Model → ℤ → ℤ → Type 0
CoversAll s m c d = (t : ℤ) → c ≤ℤ t → t ≤ℤ d → Covers m (argument_of c d t) (d -ℤ c) (range_at s t)

-- times that fit, and a model that covers the function at each of them
pub record IsKnown (s : Search) (x : Known) : Type 0 where
  pub search : IsSearch s
  pub fits : Fits s.view x.first x.last
  pub several : x.first <ℤ x.last
  pub covers : CoversAll s x.model x.first x.last

-- times that fit, and the function's bound over them
pub record IsBounded (s : Search) (x : SpanBound) : Type 0 where
  pub search : IsSearch s
  pub fits : Fits s.view x.first x.last
  pub several : x.first <ℤ x.last
  pub bound : IsBound x.bound (bound_over s.view s.event.function x.first x.last)

-- the times from a to b lie between two others
pub record AreWithin (first last a b : ℤ) : Type 0 where
  pub from : first ≤ℤ a
  pub several : a <ℤ b
  pub upto : b ≤ℤ last

-- what is known over the times from a to b at least
pub record IsKnownOver (s : Search) (x : Known) (a b : ℤ) : Type 0 where
  pub known : IsKnown s x
  pub within : AreWithin x.first x.last a b

-- a bound over the times from a to b at least
pub record IsBoundedOver (s : Search) (x : SpanBound) (a b : ℤ) : Type 0 where
  pub bounded : IsBounded s x
  pub within : AreWithin x.first x.last a b

-- the sign of numbers on the side of 0 that a margin is on
abbrev pub side : Margin → Sign
side g = if g.is_above then Yes else No

-- ---- signs
-- the model tells the sign of the function at each of the times from c to d
abbrev pub TellsAll : Search → Model → ℤ → ℤ → Type 0
TellsAll s m c d = (t : ℤ) → c ≤ℤ t → t ≤ℤ d → TellsSign m (argument_of c d t) (d -ℤ c) (range_at s t)

-- times that fit, and a model that tells the sign of the function at each of them
pub record AreSignsKnown (s : Search) (x : Known) : Type 0 where
  pub search : IsSearch s
  pub fits : Fits s.view x.first x.last
  pub several : x.first <ℤ x.last
  pub tells : TellsAll s x.model x.first x.last

-- signs that are known over the times from a to b at least
pub record AreSignsKnownOver (s : Search) (x : Known) (a b : ℤ) : Type 0 where
  pub signs : AreSignsKnown s x
  pub within : AreWithin x.first x.last a b

-- the function has one known sign from a to b
pub record HasOneSign (s : Search) (a b : ℤ) (sign : Sign) : Type 0 where
  pub known : is_known sign ≡ true
  pub signs : (t : ℤ) → a ≤ℤ t → t ≤ℤ b → sign_at s t ≡ sign

-- a model tells of the function at each of the times from c to d
abbrev pub IsToldBetween : Search → ℤ → ℤ → FunctionModel → Type 0
IsToldBetween s c d = IsModelOver c d (range_at s)

-- what a model tells, by whether it is of values or of signs
abbrev pub IsKnowledgeOver : Search → ℤ → ℤ → Knowledge → Type 0
IsKnowledgeOver s a b (Values x) = IsKnownOver s x a b
IsKnowledgeOver s a b (Signs x) = AreSignsKnownOver s x a b

-- all numbers near a model keep a margin from 0 at each argument between two others
abbrev pub KeepAll : Model → ℤ → ℤ → ℤ → Margin → Type 0
KeepAll m first last q g = (p : ℤ) (r : Fraction) → first ≤ℤ p → p ≤ℤ last → IsNear m p q r → KeepsFrom g r
