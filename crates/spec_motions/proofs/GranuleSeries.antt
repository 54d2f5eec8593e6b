-- The series of a granule that can be evaluated, and a span within it.
use Rattle.std.proofs.Common.{◌≡◌, ℕ, ◌*◌, ◌<◌, arith, length, drop, ℤ, ◌+ℤ◌, ◌≤ℤ◌}
use Rattle.std.proofs.lemmas.Int.{ints}
use Rattle.std.proofs.lemmas.List.{length-drop, length-take-le}
use Rattle.std.proofs.lemmas.List.Elements.{All-drop, All-take}
use Rattle.spec_numbers.proofs.Sizes.{own_size}
use Rattle.spec_numbers.proofs.Naturals.{row_fits}
use Rattle.spec_ephemeris.specs.Ephemeris.{IsBodyNumber}
use Rattle.spec_ephemeris.specs.declared.granule.Granule.{Granule}
use Rattle.spec_motions.specs.Enclosures.{IsSeries, IsSpanOf}
use Rattle.spec_motions.specs.Granules.{IsEvaluable}
use Rattle.spec_ephemeris.specs.Granules.{series_of}

module _ (g : Granule) (is : IsEvaluable g) (axis : ℕ) (h : axis < g.comps) where
  pub series_length : length (series_of g axis).coefficients ≡ g.n
  series_length =
      let p = row_fits axis g.comps g.n h in
      let q = is.count in
      let d = length-drop (axis * g.n) g.coefs.now in
      length-take-le g.n (drop (axis * g.n) g.coefs.now) (rw d (omega (arith, p, q)))

  pub IsSeries-of : IsSeries (series_of g axis)
  IsSeries-of = record {
    long = let p = is.long in omega (arith, ints, p);
    some = rw series_length is.some;
    few = rw series_length is.few;
    bodies = All-take IsBodyNumber g.n (drop (axis * g.n) g.coefs.now) (All-drop IsBodyNumber (axis * g.n) g.coefs.now is.bodies);
  }

  pub IsSpan-of : (a b : ℤ) → g.start ≤ℤ a → a ≤ℤ b → b ≤ℤ (g.start +ℤ g.seconds) → IsSpanOf (series_of g axis) a b
  IsSpan-of a b from ordered to = record {
    from = from;
    ordered = ordered;
    to = rw (own_size g.seconds is.long) to;
  }
