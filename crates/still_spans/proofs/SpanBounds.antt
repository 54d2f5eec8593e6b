-- What bounds of the function over times of one granule tell.
use Rattle.std.proofs.Common.{◌≡◌, Bool, true, false, ℤ, ◌<ℤ◌, refl, subst, arith}
use Rattle.std.proofs.lemmas.Int.{ints}
use Rattle.std.specs.Prelude.{if◌then◌else◌}
use Rattle.spec_intervals.specs.declared.signs.Sign.TheVariants.{Yes, No}
use Rattle.spec_intervals.specs.Interval.{Interval}
use Rattle.spec_bodies.specs.Views.{Fits}
use Rattle.spec_events.specs.Verdict.{is_known, is_one_way}
use Rattle.spec_searches.specs.Search.{IsSearch, Search}
use Rattle.spec_bounds.specs.Terms.{bound_over}
use Rattle.spec_bounds.proofs.States.{part_fits}
use Rattle.event_bounds.specs.declared.bound.Bound.{Bound as Made}
use Rattle.event_bounds.specs.Made.{IsBound}
use Rattle.spec_stills.specs.Margins.{IsMonotone}
use Rattle.span_models.specs.declared.margin.Margin.{Margin}
use Rattle.still_spans.specs.declared.span_bound.SpanBound.{SpanBound}
use Rattle.still_spans.specs.Knowledge.{IsBounded, IsBoundedOver, side}

pub bounded_by : (s : Search) (p : Made) (c d c' d' : ℤ) → c' ≡ c → d' ≡ d → IsSearch s → Fits s.view c d → c <ℤ d → IsBound p (bound_over s.view s.event.function c d)
    → IsBounded s (record { bound = p; first = c'; last = d' })
bounded_by s p c d c' d' first last is fits several bound = record {
  search = is;
  fits = rw (first, last) fits;
  several = rw (first, last) several;
  bound = rw (first, last) bound;
}

-- the sign of a side is known
pub side_is_known : (g : Margin) → is_known (side g) ≡ true
side_is_known g = by g.is_above
  where
    by : (above : Bool) → is_known (if above then Yes else No) ≡ true
    by true = refl
    by false = refl

pub monotone_by : (s : Search) (x : SpanBound) → IsBounded s x → is_one_way x.bound.step ≡ true → IsMonotone s x.first x.last
monotone_by s x is one_way = record { fits = is.fits; one_way = subst (λ (step : Interval). is_one_way step ≡ true) is.bound.step one_way }

pub times_fit : (s : Search) (x : SpanBound) (a b : ℤ) → IsBoundedOver s x a b → Fits s.view a b
times_fit s x a b over = part_fits s.view a b x.first x.last over.bounded.fits over.within.from over.within.several over.within.upto

-- a bound over the times from a to b, as a call returns it
pub bounded_from : (s : Search) (x : SpanBound) (a b a' b' : ℤ) → a' ≡ a → b' ≡ b → a <ℤ b → IsBounded s x → x.first ≡ a' → x.last ≡ b' → IsBoundedOver s x a b
bounded_from s x a b a' b' begins ends several is from upto = record {
  bounded = is;
  within = record { from = omega (arith, ints, begins, from); several = several; upto = omega (arith, ints, ends, upto) };
}
