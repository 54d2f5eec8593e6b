-- What is known of the numbers near a model is known of the function: how far it keeps from 0.
use Rattle.std.proofs.Common.{◌≡◌, ℕ, ◌*◌, ◌^◌, ◌<◌, ◌≤◌, ◌⊎◌, inl, inr, Bool, true, false, Option, None, Some, ℤ, pos, neg_ℤ, ◌-ℤ◌, ◌≤ℤ◌, ◌<ℤ◌, arith, refl, sym, ap, ◌∙◌, List, subst}
use Rattle.std.specs.Prelude.{IfSome, is_some, if◌then◌else◌}
use Rattle.std.proofs.lemmas.Int.{ints}
use Rattle.std.proofs.lemmas.Nat.{pow_pos}
use Rattle.std.proofs.Math.Nat.{mul-pos}
use borrow.Author.Differences.{up, down}
use Rattle.spec_intervals.specs.Fraction.{Fraction, IsFraction}
use Rattle.spec_intervals.specs.declared.signs.Sign.TheVariants.{Yes, No}
use Rattle.spec_chebyshev.specs.Differences.{IsArgument}
use Rattle.spec_ephemeris.specs.Borders.{nearest_border}
use Rattle.spec_ephemeris.specs.Ephemeris.{Ephemeris, end_of}
use Rattle.spec_bodies.specs.Views.{Fits, state_enclosure, IsView, View, columns_of}
use Rattle.spec_searches.specs.Search.{IsSearch, Search, enclosure_over}
use Rattle.spec_searches.proofs.Borders.{span_fits}
use Rattle.spec_searches.proofs.Parts.{first_near, last_near}
use Rattle.spec_bounds.specs.Steady.{sign_at}
use Rattle.spec_bounds.proofs.States.{part_fits}
use Rattle.spec_steps.specs.ColumnTerms.{of_term, sight_of}
use Rattle.column_steps.specs.Listed.{IsMadeAt, Listed}
use Rattle.spec_models.specs.Ends.{low, high}
use Rattle.spec_models.specs.Models.{Model, bulk}
use Rattle.spec_intervals.specs.declared.signs.Sign.{Sign}
use Rattle.spec_stills.specs.Margins.{HasMargin, IsAbove, IsBelow, range_at}
use Rattle.span_models.specs.declared.margin.Margin.{Margin}
use Rattle.span_models.specs.Margins.{KeepsFrom, margin_of}
use Rattle.still_spans.specs.declared.known.Known.{Known}
use Rattle.event_models.specs.Covered.{IsModelOf}
use Rattle.event_models.specs.declared.function_model.FunctionModel.{FunctionModel}
use Rattle.event_models.specs.Signs.{IsFunctionModel, IsModelOver, TellsSigns, greatest_ratio}
use Rattle.still_spans.specs.Knowledge.{AreSignsKnownOver, AreWithin, HasOneSign, IsKnown, IsKnownOver, IsToldBetween, KeepAll, argument_of, side}
use Rattle.still_spans.proofs.SpanBounds.{side_is_known}

-- its times are near J2000
pub near : (s : Search) (x : Known) → Fits s.view x.first x.last → (neg_ℤ (pos (2 ^ 50)) ≤ℤ x.first) × (x.last ≤ℤ pos (2 ^ 50))
near s x fits =
    let low = first_near s fits.view in
    let high = last_near s fits.view in
    let from = fits.from in
    let upto = fits.upto in
    (omega (arith, ints, low, from), omega (arith, ints, high, upto))

is_argument : (c d t : ℤ) → c <ℤ d → c ≤ℤ t → t ≤ℤ d → IsArgument (argument_of c d t) (d -ℤ c)
is_argument c d t several from upto = record {
  positive = omega (arith, ints, several);
  low = omega (arith, ints, from);
  high = omega (arith, ints, upto);
}

-- the argument of a time and the length of the model's times, as they are passed on
pub passed_argument : (c d t p q : ℤ) → c <ℤ d → c ≤ℤ t → t ≤ℤ d → p ≡ argument_of c d t → q ≡ d -ℤ c → IsArgument p q
passed_argument c d t p q several from upto at over = rw (at, over) (is_argument c d t several from upto)

some_margin : (g : Margin) → 0 < g.size → pos 0 <ℤ (margin_of g).numerator
some_margin g some = let more = mul-pos some (pow_pos (up g.exponent)) in omega (arith, ints, more)

-- by the laws on margins, what the side of a margin tells
abbrev pub TellsAbove : Type 0
TellsAbove = (s : Search) (a b : ℤ) (g : Fraction) (t : ℤ) → pos 0 <ℤ g.numerator → IsFraction g → IsAbove s a b g → a ≤ℤ t → t ≤ℤ b → sign_at s t ≡ Yes

abbrev pub TellsBelow : Type 0
TellsBelow = (s : Search) (a b : ℤ) (g : Fraction) (t : ℤ) → IsSearch s → Fits s.view a b → pos 0 <ℤ g.numerator → IsFraction g → IsBelow s a b g → a ≤ℤ t → t ≤ℤ b
    → sign_at s t ≡ No

module _ (s : Search) (x : Known) (is : IsKnown s x) (a b : ℤ) (from : x.first ≤ℤ a) (several : a <ℤ b) (upto : b ≤ℤ x.last)
    (g : Margin) (keep : KeepAll x.model (argument_of x.first x.last a) (argument_of x.first x.last b) (x.last -ℤ x.first) g) where
  keep_low : (t : ℤ) → a ≤ℤ t → t ≤ℤ b → KeepsFrom g (low (range_at s t))
  keep_low t after before =
      keep (argument_of x.first x.last t) (low (range_at s t)) (omega (arith, ints, after)) (omega (arith, ints, before))
      (is.covers t (omega (arith, ints, from, after)) (omega (arith, ints, upto, before))).low

  keep_high : (t : ℤ) → a ≤ℤ t → t ≤ℤ b → KeepsFrom g (high (range_at s t))
  keep_high t after before =
      keep (argument_of x.first x.last t) (high (range_at s t)) (omega (arith, ints, after)) (omega (arith, ints, before))
      (is.covers t (omega (arith, ints, from, after)) (omega (arith, ints, upto, before))).high

  positive : pos 0 <ℤ (margin_of g).numerator
  positive = some_margin g (keep_low a (omega (arith, ints)) (omega (arith, ints, several))).some

  is_above : g.is_above ≡ true → IsAbove s a b (margin_of g)
  is_above e t after before = (keep_low t after before).above e

  is_below : g.is_above ≡ false → IsBelow s a b (margin_of g)
  is_below e t after before = (keep_high t after before).below e

  pub has_margin : HasMargin s a b (margin_of g)
  has_margin = record { positive = positive; is_fraction = pow_pos (down g.exponent); one_sign = by g.is_above refl }
    where
      by : (above : Bool) → g.is_above ≡ above → IsAbove s a b (margin_of g) ⊎ IsBelow s a b (margin_of g)
      by true e = inl (is_above e)
      by false e = inr (is_below e)

  pub has_side : TellsAbove → TellsBelow → sign_at s a ≡ side g
  has_side above below = by g.is_above refl
    where
      by : (is_above : Bool) → g.is_above ≡ is_above → sign_at s a ≡ (if is_above then Yes else No)
      by true e = above s a b (margin_of g) a positive (pow_pos (down g.exponent)) (is_above e) (omega (arith, ints)) (omega (arith, ints, several))
      by false e =
          below s a b (margin_of g) a is.search (part_fits s.view a b x.first x.last is.fits from several upto)
          positive (pow_pos (down g.exponent)) (is_below e) (omega (arith, ints)) (omega (arith, ints, several))

-- of one that may be there
module _ (s : Search) (x : Known) (a b : ℤ) (over : IsKnownOver s x a b) where
  abbrev pub KeepsIfSome : Option Margin → Type 0
  KeepsIfSome found = IfSome found (KeepAll x.model (argument_of x.first x.last a) (argument_of x.first x.last b) (x.last -ℤ x.first))

  pub margin_if : (found : Option Margin) → KeepsIfSome found → IfSome found (λ g. HasMargin s a b (margin_of g))
  margin_if None keep = keep
  margin_if (Some g) keep = has_margin s x over.known a b over.within.from over.within.several over.within.upto g keep

  pub side_if : TellsAbove → TellsBelow → (found : Option Margin) → KeepsIfSome found → IfSome found (λ g. sign_at s a ≡ side g)
  side_if above below None keep = keep
  side_if above below (Some g) keep = has_side s x over.known a b over.within.from over.within.several over.within.upto g keep above below

-- by what is found of borders
pub fits_by : (s : Search) (v : View) (e : Ephemeris) (columns : List ℕ) (found : Option ℤ) (a b : ℤ) → IsView s.view → v ≡ s.view → columns ≡ columns_of v → e ≡ s.view.ephemeris
    → found ≡ nearest_border e columns a b → s.view.ephemeris.start ≤ℤ a → a <ℤ b → b ≤ℤ end_of s.view.ephemeris → is_some found ≡ false → Fits s.view a b
fits_by s v e columns found a b is same in_use own nearest from several upto none =
    let here : found ≡ nearest_border s.view.ephemeris (columns_of s.view) a b = nearest ∙ λ i. nearest_border (own i) ((in_use ∙ ap columns_of same) i) a b in
    span_fits s.view is a b from (omega (arith, ints, several)) upto (sym (ap is_some here) ∙ none)

-- what a model over what is seen tells of the function, for whose formula a step stands
pub told_by : (s : Search) (x : FunctionModel) (v : View) (l : Listed) (place : ℕ) (c d : ℤ) → v ≡ s.view → IsMadeAt l place (of_term (sight_of s.view) s.event.function)
    → IsSearch s → IsFunctionModel v c d l place x → IsToldBetween s c d x
told_by s x v l place c d same made is told =
    let f = s.event.function in
    let stands = subst (λ w. IsMadeAt l place (of_term (sight_of w) f)) (sym same) made in
    subst (λ w. IsModelOver c d (λ t. (enclosure_over (state_enclosure w) f t t).range) x) same (told f is.formulas.function stands)

-- known over all its times: by values, or by signs
module _ (s : Search) (m : Model) (c d c' d' : ℤ) (first : c' ≡ c) (last : d' ≡ d) (is : IsSearch s) (fits : Fits s.view c d) (several : c <ℤ d) where
  within : AreWithin c' d' c d
  within = record { from = omega (arith, ints, first); several = several; upto = omega (arith, ints, last) }

  pub values_known : IsModelOf c d m (range_at s) → IsKnownOver s (record { model = m; first = c'; last = d' }) c d
  values_known made = record {
    known = record {
      search = is;
      fits = rw (first, last) fits;
      several = rw (first, last) several;
      covers = rw (first, last) (λ t from upto. (made t from upto).covers);
    };
    within = within;
  }

  pub signs_known : TellsSigns c d m (range_at s) → AreSignsKnownOver s (record { model = m; first = c'; last = d' }) c d
  signs_known told = record {
    signs = record {
      search = is;
      fits = rw (first, last) fits;
      several = rw (first, last) several;
      tells = rw (first, last) told;
    };
    within = within;
  }

-- the sign that a model tells from one time to another, by a margin that is wide enough
module _ (s : Search) (x : Known) (a b : ℤ) (over : AreSignsKnownOver s x a b) (g : Margin)
    (keep : KeepAll x.model (argument_of x.first x.last a) (argument_of x.first x.last b) (x.last -ℤ x.first) g) where
  one_sign : g.exponent ≡ x.model.exponent → bulk x.model ≤ g.size * greatest_ratio → HasOneSign s a b (side g)
  one_sign unit far =
      let from = over.within.from in
      let upto = over.within.upto in
      record {
        known = side_is_known g;
        signs = λ t after before.
            over.signs.tells t (omega (arith, ints, from, after)) (omega (arith, ints, upto, before)) g
            (record { keep = λ r close. keep (argument_of x.first x.last t) r (omega (arith, ints, after)) (omega (arith, ints, before)) close; unit = unit; far = far });
      }

  pub one_sign_if : (found : Option Sign) → IfSome found (λ sign. sign ≡ side g) → IfSome found (λ sign. g.exponent ≡ x.model.exponent)
      → IfSome found (λ sign. bulk x.model ≤ g.size * greatest_ratio) → IfSome found (HasOneSign s a b)
  one_sign_if None same unit far = same
  one_sign_if (Some sign) same unit far = subst (HasOneSign s a b) (sym same) (one_sign unit far)

-- the same arguments, as they are passed on
pub kept_as : (m : Model) (first' first last' last q' q : ℤ) (found : Option Margin) → first' ≡ first → last' ≡ last → q' ≡ q → IfSome found (KeepAll m first' last' q')
    → IfSome found (KeepAll m first last q)
kept_as m first' first last' last q' q found at_first at_last over keep = subst (λ x. IfSome found (KeepAll m x last q)) at_first (subst (λ x. IfSome found (KeepAll m first' x q)) at_last
    (subst (λ x. IfSome found (KeepAll m first' last' x)) over keep))
