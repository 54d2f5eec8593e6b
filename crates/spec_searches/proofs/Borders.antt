-- What the border is that falls into a span, and which times fit a view.
use Rattle.std.proofs.Common.{◌≡◌, false, Option, None, Some, is_some, ℤ, ◌≤ℤ◌, ◌<ℤ◌, subst, arith}
use Rattle.std.proofs.lemmas.Int.{ints}
use Rattle.spec_ephemeris.specs.Borders.{nearest_border}
use Rattle.spec_ephemeris.specs.Ephemeris.{IsBorderIn, IsNearestBorder, end_of}
use Rattle.spec_ephemeris.proofs.NearestBorders.{nearest_of_all}
use Rattle.spec_bodies.specs.Views.{View, IsView, Fits, columns_of}
use Rattle.spec_bodies.proofs.InUse.{present_in_use}

module _ (v : View) (is : IsView v) where
  nearest_is : (a b : ℤ) → IsNearestBorder v.ephemeris (columns_of v) a b (nearest_border v.ephemeris (columns_of v) a b)
  nearest_is a b = nearest_of_all v.ephemeris (columns_of v) a b is.checked (present_in_use v is)

  pub border_within : (a b border : ℤ) → nearest_border v.ephemeris (columns_of v) a b ≡ Some border → (a <ℤ border) × (border ≤ℤ b)
  border_within a b border e =
      let nearest = subst (IsNearestBorder v.ephemeris (columns_of v) a b) e (nearest_is a b) in
      (nearest.0.after, nearest.0.upto)

  no_border : (a b : ℤ) → is_some (nearest_border v.ephemeris (columns_of v) a b) ≡ false → (t : ℤ) → IsBorderIn v.ephemeris (columns_of v) a b t → ⊥
  no_border a b none = by (nearest_border v.ephemeris (columns_of v) a b) none (nearest_is a b)
    where
      by : (x : Option ℤ) → is_some x ≡ false → IsNearestBorder v.ephemeris (columns_of v) a b x → (t : ℤ) → IsBorderIn v.ephemeris (columns_of v) a b t → ⊥
      by None e nearest = nearest
      by (Some border) e nearest = absurd (cc)

  -- a span without a border, and a single time
  pub span_fits : (a b : ℤ) → v.ephemeris.start ≤ℤ a → a ≤ℤ b → b ≤ℤ end_of v.ephemeris → is_some (nearest_border v.ephemeris (columns_of v) a b) ≡ false → Fits v a b
  span_fits a b from ordered upto none = record { view = is; ordered = ordered; from = from; upto = upto; no_border = no_border a b none }

  pub time_fits : (t : ℤ) → v.ephemeris.start ≤ℤ t → t ≤ℤ end_of v.ephemeris → Fits v t t
  time_fits t from upto = record {
    view = is;
    ordered = omega (arith, ints);
    from = from;
    upto = upto;
    no_border = λ s border. absurd (omega (arith, ints, border.after, border.upto));
  }
