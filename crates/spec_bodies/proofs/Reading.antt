-- The granule that a column is read from has the series of the column, and the times lie within it.
use Rattle.std.proofs.Common.{◌≡◌, ℕ, ◌≤◌, sym, ◌∙◌, subst, arith, ℤ, pos, neg_ℤ, ◌^◌, ◌*◌, length, ◌+ℤ◌, ◌<ℤ◌, ◌≤ℤ◌, unsigned_abs}
use Rattle.std.specs.Prelude.{All}
use Rattle.std.proofs.lemmas.Int.{ints}
use Rattle.spec_ephemeris.specs.declared.limits.TheConstants.{BODY_COLUMNS}
use Rattle.spec_ephemeris.specs.Ephemeris.{IsBodyNumber, IsBorder, axis_series}
use Rattle.spec_ephemeris.specs.Rounding.{pairs_of}
use Rattle.spec_ephemeris.proofs.Rounding.{pairs_of_body}
use Rattle.spec_ephemeris.specs.declared.granule.Granule.{Granule as Read}
use Rattle.spec_motions.specs.Enclosures.{IsSpanOf}
use Rattle.spec_ephemeris.specs.Granules.{column_of, granule_at, series_at, granule_of, series_of}
use Rattle.spec_bodies.specs.Reading.{IsUsable}
use Rattle.spec_bodies.specs.Views.{View, Fits}
use Rattle.spec_bodies.proofs.Columns.{span_of}
use Rattle.spec_motions.specs.Granules.{IsEvaluable}
use Rattle.spec_numbers.proofs.Sizes.{own_size}

module _ (v : View) (a b : ℤ) (fits : Fits v a b) (number : ℕ) (usable : IsUsable v number) (g : Read)
    (is : granule_of g ≡ granule_at v.ephemeris number a) (count : g.n ≡ (column_of v.ephemeris number).coefs) (long : pos 1 ≤ℤ g.seconds) where
  pub series_is : (axis : ℕ) → series_of g axis ≡ series_at v.ephemeris number axis a
  series_is axis = λ i. axis_series (is i) (count i) axis

  none_of : (t : ℤ) → IsBorder v.ephemeris number t → a <ℤ t → t ≤ℤ b → ⊥
  none_of t border after upto = fits.no_border t (record { number = number; listed = usable.in_use; border = border; after = after; upto = upto })

  own_span : IsSpanOf (series_of g 0) a b
  own_span = subst (λ s. IsSpanOf s a b) (sym (series_is 0)) (span_of v.ephemeris number fits.view.checked usable.there fits.view.block a b fits.from fits.ordered fits.upto none_of 0)

  pub from_start : g.start ≤ℤ a
  from_start = own_span.from

  pub upto_end : b ≤ℤ (g.start +ℤ g.seconds)
  upto_end = let same : pos (unsigned_abs g.seconds) ≡ g.seconds = own_size g.seconds long in rw same at own_span.to

pub evaluable : (g : Read) (number : ℕ) → number ≤ BODY_COLUMNS → (1 ≤ g.n) × (g.n ≤ 32) → length g.coefs.now ≡ g.comps * g.n → (number ≤ BODY_COLUMNS → All IsBodyNumber g.coefs.now) → g.rounded.now ≡ pairs_of number g.coefs.now
    → (pos 1 ≤ℤ g.seconds) × (g.seconds ≤ℤ pos (2 ^ 40)) → (neg_ℤ (pos (2 ^ 50)) ≤ℤ g.start) × (g.start ≤ℤ pos (2 ^ 50)) → IsEvaluable g
evaluable g number body few count bodies pairs duration start = record {
  some = few.0;
  few = few.1;
  count = count;
  bodies = bodies body;
  pairs = pairs ∙ sym (pairs_of_body number g.coefs.now body);
  long = duration.0;
  short = duration.1;
  start = near g.start start.0 start.1;
}
  where
    near : (z : ℤ) → neg_ℤ (pos (2 ^ 50)) ≤ℤ z → z ≤ℤ pos (2 ^ 50) → unsigned_abs z ≤ 2 ^ 50
    near z low high = omega (arith, ints, low, high)
