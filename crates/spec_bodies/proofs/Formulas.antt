-- A coordinate's formula is made of the columns in use, and it holds what they do.
use Rattle.std.proofs.Common.{◌≡◌, ℕ, zero, suc, ◌+◌, ◌*◌, ◌^◌, ◌<◌, ◌≤◌, arith, refl, ℤ, pos, ◌*ℤ◌, ◌≤ℤ◌}
use Rattle.std.specs.Prelude.{All}
use Rattle.std.proofs.Math.Nat.{one-le-pow}
use borrow.Author.Differences.{down}
use Rattle.spec_text.specs.declared.decimals.Decimal.{Decimal}
use Rattle.spec_numbers.proofs.Floor.{floor_div-le, ceil_div-ge}
use Rattle.spec_numbers.specs.Numbers.{floor_div, ceil_div}
use Rattle.spec_intervals.specs.Fraction.{Fraction, IsFraction, Holds, fraction}
use Rattle.spec_intervals.specs.Enclosure.{Enclosure, IsEnclosure, AllFractions}
use Rattle.spec_intervals.specs.Interval.{zero_interval}
use Rattle.spec_numbers.proofs.Naturals.{positive_product}
use Rattle.spec_intervals.proofs.Compare.{Holds-zero}
use Rattle.spec_intervals.proofs.Enclosed.{IsEnclosure-constant, IsEnclosure-sum, IsEnclosure-difference, IsEnclosure-product}
use Rattle.spec_bodies.specs.declared.frame.Frame.{Frame}
use Rattle.spec_bodies.specs.declared.frame.Frame.TheVariants.{Eq, Ecl}
use Rattle.spec_bodies.specs.declared.source.Source.{Source}
use Rattle.spec_bodies.specs.declared.source.Source.TheVariants.{OwnColumn, EarthOfPair, MoonOfPair, Origin}
use Rattle.spec_bodies.specs.Sources.{used}
use Rattle.spec_bodies.specs.declared.factor.Factor.{Factor}
use Rattle.spec_bodies.specs.declared.factor.Factor.TheVariants.{MoonShare, Cosine, Sine}
use Rattle.spec_bodies.specs.Coordinates.{Coordinate, nothing, of_column, times, plus, less, displacement, in_frame}
use Rattle.spec_bodies.specs.Reading.{AllColumns}
use Rattle.spec_bodies.specs.Meanings.{factor, factor_interval, exact_of, enclosure_of}

pub all_columns : (P Q : ℕ → ℕ → Type 0) → ((number axis : ℕ) → P number axis → Q number axis) → (c : Coordinate) → AllColumns P c → AllColumns Q c
all_columns P Q weaker nothing all = tt
all_columns P Q weaker (of_column number axis) all = weaker number axis all
all_columns P Q weaker (times f x) all = all_columns P Q weaker x all
all_columns P Q weaker (plus x y) all = (all_columns P Q weaker x all.0, all_columns P Q weaker y all.1)
all_columns P Q weaker (less x y) all = (all_columns P Q weaker x all.0, all_columns P Q weaker y all.1)

-- seen from an observer, a target is made of the columns in use
pub displacement_columns : (P : ℕ → ℕ → Type 0) (axis : ℕ) (target observer : Source) → All (λ n. P n axis) (used target observer) → AllColumns P (displacement target observer axis)
displacement_columns P axis (OwnColumn n) (OwnColumn m) all = (all 0 0 (omega arith), all 1 0 (omega arith))
displacement_columns P axis (OwnColumn n) EarthOfPair all = (all 0 0 (omega arith), (all 1 0 (omega arith), all 2 0 (omega arith)))
displacement_columns P axis (OwnColumn n) MoonOfPair all = (all 0 0 (omega arith), ((all 1 0 (omega arith), all 2 0 (omega arith)), all 2 0 (omega arith)))
displacement_columns P axis (OwnColumn n) Origin all = all 0 0 (omega arith)
displacement_columns P axis EarthOfPair (OwnColumn m) all = ((all 0 0 (omega arith), all 1 0 (omega arith)), all 2 0 (omega arith))
displacement_columns P axis EarthOfPair EarthOfPair all = ((all 0 0 (omega arith), all 1 0 (omega arith)), (all 0 0 (omega arith), all 1 0 (omega arith)))
displacement_columns P axis EarthOfPair MoonOfPair all = (tt, all 0 0 (omega arith))
displacement_columns P axis EarthOfPair Origin all = (all 0 0 (omega arith), all 1 0 (omega arith))
displacement_columns P axis MoonOfPair (OwnColumn m) all = (((all 0 0 (omega arith), all 1 0 (omega arith)), all 1 0 (omega arith)), all 2 0 (omega arith))
displacement_columns P axis MoonOfPair EarthOfPair all = all 0 0 (omega arith)
displacement_columns P axis MoonOfPair MoonOfPair all = (((all 0 0 (omega arith), all 1 0 (omega arith)), all 1 0 (omega arith)), ((all 0 0 (omega arith), all 1 0 (omega arith)), all 1 0 (omega arith)))
displacement_columns P axis MoonOfPair Origin all = ((all 0 0 (omega arith), all 1 0 (omega arith)), all 1 0 (omega arith))
displacement_columns P axis Origin (OwnColumn m) all = (tt, all 0 0 (omega arith))
displacement_columns P axis Origin EarthOfPair all = (tt, (all 0 0 (omega arith), all 1 0 (omega arith)))
displacement_columns P axis Origin MoonOfPair all = (tt, ((all 0 0 (omega arith), all 1 0 (omega arith)), all 1 0 (omega arith)))
displacement_columns P axis Origin Origin all = tt

-- and so it is in a frame
pub in_frame_columns : (P : ℕ → ℕ → Type 0) (frame : Frame) (axis : ℕ) (own : ℕ → Coordinate) → axis < 3
    → ((axis : ℕ) → axis < 3 → AllColumns P (own axis)) → AllColumns P (in_frame frame own axis)
in_frame_columns P Eq axis own there all = all axis there
in_frame_columns P Ecl zero own there all = all 0 (omega arith)
in_frame_columns P Ecl (suc zero) own there all = (all 1 (omega arith), all 2 (omega arith))
in_frame_columns P Ecl (suc (suc axis)) own there all = (all 2 (omega arith), all 1 (omega arith))

-- ---- the factors
share_positive : (a b : ℕ) → 1 ≤ a → 0 < a + b
share_positive a b h = omega (arith, h)

pub IsFraction-factor : (ratio : Decimal) (f : Factor) → IsFraction (factor ratio f)
IsFraction-factor ratio MoonShare = share_positive (10 ^ down ratio.exp) _ (one-le-pow (down ratio.exp) 10 (omega arith))
IsFraction-factor ratio Cosine = omega arith
IsFraction-factor ratio Sine = omega arith

pub Holds-factor_interval : (r : Fraction) → IsFraction r → Holds (factor_interval r) r
unfolding factor_interval
Holds-factor_interval r is =
    let f : (floor_div (r.numerator *ℤ pos (2 ^ 60)) r.denominator *ℤ pos r.denominator) ≤ℤ (r.numerator *ℤ pos (2 ^ 60)) = floor_div-le (r.numerator *ℤ pos (2 ^ 60)) r.denominator is in
    let g : (r.numerator *ℤ pos (2 ^ 60)) ≤ℤ (ceil_div (r.numerator *ℤ pos (2 ^ 60)) r.denominator *ℤ pos r.denominator) = ceil_div-ge (r.numerator *ℤ pos (2 ^ 60)) r.denominator is in
    let e : 1 * r.denominator ≡ r.denominator = omega arith in
    record { low = rw e f; high = rw e g }

-- ---- both meanings, over times from a to b
-- a coordinate of a column is a number, and its enclosure holds it
abbrev pub IsHeld : ℤ → ℤ → (ℕ → ℕ → ℤ → Fraction) → (ℕ → ℕ → Enclosure) → ℕ → ℕ → Type 0
IsHeld a b column answer number axis = AllFractions (column number axis) a b × IsEnclosure (column number axis) a b (answer number axis)

module _ (a b : ℤ) (ab : a ≤ℤ b) (column : ℕ → ℕ → ℤ → Fraction) (answer : ℕ → ℕ → Enclosure) (factors : Factor → Fraction)
    (fractions : (f : Factor) → IsFraction (factors f)) where
  pub AllFractions-coordinate : (c : Coordinate) → AllColumns (IsHeld a b column answer) c → AllFractions (exact_of column factors c) a b
  AllFractions-coordinate nothing all t p q = omega arith
  AllFractions-coordinate (of_column number axis) all t p q = all.0 t p q
  AllFractions-coordinate (times f x) all t p q = positive_product _ _ (fractions f) (AllFractions-coordinate x all t p q)
  AllFractions-coordinate (plus x y) all t p q = positive_product _ _ (AllFractions-coordinate x all.0 t p q) (AllFractions-coordinate y all.1 t p q)
  AllFractions-coordinate (less x y) all t p q = positive_product _ _ (AllFractions-coordinate x all.0 t p q) (AllFractions-coordinate y all.1 t p q)

  pub IsEnclosure-coordinate : (c : Coordinate) → AllColumns (IsHeld a b column answer) c → IsEnclosure (exact_of column factors c) a b (enclosure_of answer factors a b c)
  IsEnclosure-coordinate nothing all = IsEnclosure-constant a b ab (fraction (pos 0) 1) (omega arith) zero_interval (Holds-zero (fraction (pos 0) 1) refl)
  IsEnclosure-coordinate (of_column number axis) all = all.1
  IsEnclosure-coordinate (times f x) all =
      IsEnclosure-product a b ab (λ t. factors f) (exact_of column factors x) (λ t p q. fractions f) (AllFractions-coordinate x all) _ _
      (IsEnclosure-constant a b ab (factors f) (fractions f) (factor_interval (factors f)) (Holds-factor_interval (factors f) (fractions f)))
      (IsEnclosure-coordinate x all)
  IsEnclosure-coordinate (plus x y) all =
      IsEnclosure-sum a b ab (exact_of column factors x) (exact_of column factors y) (AllFractions-coordinate x all.0) (AllFractions-coordinate y all.1) _ _ (IsEnclosure-coordinate x all.0) (IsEnclosure-coordinate y all.1)
  IsEnclosure-coordinate (less x y) all =
      IsEnclosure-difference a b ab (exact_of column factors x) (exact_of column factors y) (AllFractions-coordinate x all.0) (AllFractions-coordinate y all.1) _ _ (IsEnclosure-coordinate x all.0) (IsEnclosure-coordinate y all.1)
