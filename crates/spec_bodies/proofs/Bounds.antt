-- The exponents of the enclosure of a coordinate, by its formula.
use Rattle.std.proofs.Common.{ℕ, zero, suc, ◌+◌, max, arith, subst, sym, ℤ}
use Rattle.std.proofs.lemmas.Int.{ints}
use Rattle.spec_intervals.specs.Interval.{Interval, product}
use Rattle.spec_intervals.specs.Fraction.{Fraction}
use Rattle.spec_intervals.specs.Enclosure.{Enclosure, IsSpan, AllWithin, enclosure}
use Rattle.spec_bodies.specs.declared.frame.Frame.{Frame}
use Rattle.spec_bodies.specs.declared.frame.Frame.TheVariants.{Eq, Ecl}
use Rattle.spec_bodies.specs.declared.source.Source.{Source}
use Rattle.spec_bodies.specs.declared.source.Source.TheVariants.{OwnColumn, EarthOfPair, MoonOfPair, Origin}
use Rattle.spec_bodies.specs.declared.factor.Factor.{Factor}
use Rattle.spec_bodies.specs.Coordinates.{Coordinate, nothing, of_column, times, plus, less, displacement, in_frame}
use Rattle.spec_bodies.specs.Meanings.{factor_interval, enclosure_of}
use Rattle.spec_bodies.specs.Reading.{AllColumns, column_lowest, column_highest, lowest, highest, IsLow, IsShort, IsFactor}
use Rattle.spec_intervals.proofs.Exponents.{IsBetween, between-more, product-between}
use Rattle.spec_intervals.proofs.EnclosureExponents.{AreBetween, all-more, between-all_within, enclosure-between, nothing-between, sum_of-between, difference_of-between}
use Rattle.spec_bodies.proofs.Factors.{times_factor}

multiplied : (c t : Interval) (l h : ℕ) → IsFactor c → IsBetween l h t → IsBetween (l + 60) (h + 2) (product c t)
multiplied c t l h factor is =
    let s = factor.exponent in
    let low = is.low in
    let high = is.high in
    product-between c t (l + 60) (h + 2) (record { lo_small = factor.lo_small; hi_small = factor.hi_small }) (record { lo_small = is.lo_small; hi_small = is.hi_small }) (omega (arith, ints, s, low)) (omega (arith, ints, s, high))

scaled : (a b : ℤ) → IsSpan a b → (c : Interval) (x : Enclosure) (l h : ℕ) → IsFactor c → AreBetween l h x → AreBetween (l + 60) (h + 2) (enclosure a b (product c x.mid) (product c x.range) (product c x.step))
scaled a b span c x l h factor is =
    enclosure-between a b span (l + 60) (h + 2) (product c x.mid) (product c x.range) (product c x.step)
    (multiplied c x.mid l h factor is.mid)
    (between-more (l + 60) (h + 63 + 2) (l + 60) (h + 2 + 63) (product c x.range) (omega arith) (omega arith) (multiplied c x.range l (h + 63) factor is.range))
    (multiplied c x.step l h factor is.step)

module _ (a b : ℤ) (span : IsSpan a b) (answer : ℕ → ℕ → Enclosure) (factors : Factor → Fraction) (are : (f : Factor) → IsFactor (factor_interval (factors f))) where
  pub between_of : (c : Coordinate) → AllColumns (λ number axis. AreBetween column_lowest column_highest (answer number axis)) c → AreBetween (lowest c) (highest c) (enclosure_of answer factors a b c)
  between_of nothing all = nothing-between a b span
  between_of (of_column number axis) all = all
  between_of (times f x) all =
      subst (AreBetween (lowest x + 60) (highest x + 2)) (sym (times_factor a b (factor_interval (factors f)) (enclosure_of answer factors a b x) (are f)))
      (scaled a b span (factor_interval (factors f)) (enclosure_of answer factors a b x) (lowest x) (highest x) (are f) (between_of x all))
  between_of (plus x y) all =
      sum_of-between a b span (max (lowest x) (lowest y)) (max (highest x) (highest y)) (enclosure_of answer factors a b x) (enclosure_of answer factors a b y)
      (all-more (lowest x) (highest x) _ _ (enclosure_of answer factors a b x) (omega arith) (omega arith) (between_of x all.0))
      (all-more (lowest y) (highest y) _ _ (enclosure_of answer factors a b y) (omega arith) (omega arith) (between_of y all.1))
  between_of (less x y) all =
      difference_of-between a b span (max (lowest x) (lowest y)) (max (highest x) (highest y)) (enclosure_of answer factors a b x) (enclosure_of answer factors a b y)
      (all-more (lowest x) (highest x) _ _ (enclosure_of answer factors a b x) (omega arith) (omega arith) (between_of x all.0))
      (all-more (lowest y) (highest y) _ _ (enclosure_of answer factors a b y) (omega arith) (omega arith) (between_of y all.1))

-- ---- the formulas of bodies
pub displacement_low : (axis : ℕ) (target observer : Source) → IsLow 144 7 (displacement target observer axis)
displacement_low axis (OwnColumn n) (OwnColumn m) = record { low = omega arith; high = omega arith }
displacement_low axis (OwnColumn n) EarthOfPair = record { low = omega arith; high = omega arith }
displacement_low axis (OwnColumn n) MoonOfPair = record { low = omega arith; high = omega arith }
displacement_low axis (OwnColumn n) Origin = record { low = omega arith; high = omega arith }
displacement_low axis EarthOfPair (OwnColumn m) = record { low = omega arith; high = omega arith }
displacement_low axis EarthOfPair EarthOfPair = record { low = omega arith; high = omega arith }
displacement_low axis EarthOfPair MoonOfPair = record { low = omega arith; high = omega arith }
displacement_low axis EarthOfPair Origin = record { low = omega arith; high = omega arith }
displacement_low axis MoonOfPair (OwnColumn m) = record { low = omega arith; high = omega arith }
displacement_low axis MoonOfPair EarthOfPair = record { low = omega arith; high = omega arith }
displacement_low axis MoonOfPair MoonOfPair = record { low = omega arith; high = omega arith }
displacement_low axis MoonOfPair Origin = record { low = omega arith; high = omega arith }
displacement_low axis Origin (OwnColumn m) = record { low = omega arith; high = omega arith }
displacement_low axis Origin EarthOfPair = record { low = omega arith; high = omega arith }
displacement_low axis Origin MoonOfPair = record { low = omega arith; high = omega arith }
displacement_low axis Origin Origin = record { low = omega arith; high = omega arith }

pub in_frame_low : (frame : Frame) (axis : ℕ) (own : ℕ → Coordinate) → ((axis : ℕ) → IsLow 144 7 (own axis)) → IsShort (in_frame frame own axis)
in_frame_low Eq axis own is = let l = (is axis).low in let h = (is axis).high in record { low = omega (arith, l); high = omega (arith, h) }
in_frame_low Ecl zero own is = let l = (is 0).low in let h = (is 0).high in record { low = omega (arith, l); high = omega (arith, h) }
in_frame_low Ecl (suc zero) own is =
    let l = (is 1).low in let h = (is 1).high in let m = (is 2).low in let n = (is 2).high in record { low = omega (arith, l, m); high = omega (arith, h, n) }
in_frame_low Ecl (suc (suc axis)) own is =
    let l = (is 1).low in let h = (is 1).high in let m = (is 2).low in let n = (is 2).high in record { low = omega (arith, l, m); high = omega (arith, h, n) }

pub within_of : (c : Coordinate) (e : Enclosure) → IsShort c → AreBetween (lowest c) (highest c) e → AllWithin 256 e
within_of c e is between = let l = is.low in let h = is.high in between-all_within (lowest c) (highest c) 256 e (omega (arith, l)) (omega (arith, h)) between
