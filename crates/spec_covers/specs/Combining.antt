-- What models are made of others: it is said by all numbers near them, so that any way to make them will do. And how many
-- units a model has to be widened for what the rules of intervals round.
use Rattle.std.specs.Prelude.{ℕ, ℤ, pos, neg_ℤ, ◌≤ℤ◌}
use Rattle.spec_intervals.specs.Fraction.{Fraction, fraction, fraction_add, fraction_sub, fraction_mul, fraction_signed_square, fraction_scale}
use Rattle.spec_chebyshev.specs.Differences.{IsArgument}
use Rattle.spec_models.specs.Ends.{NoMore, in_units, slight}
use Rattle.spec_models.specs.Models.{Model, IsNear, bulk}

-- ---- of two models
-- sums of numbers near m and n are near k
abbrev pub AddsTo : Model → Model → Model → Type 0
AddsTo m n k = (p q : ℤ) (r t : Fraction) → IsArgument p q → IsNear m p q r → IsNear n p q t → IsNear k p q (fraction_add r t)

abbrev pub SubtractsTo : Model → Model → Model → Type 0
SubtractsTo m n k = (p q : ℤ) (r t : Fraction) → IsArgument p q → IsNear m p q r → IsNear n p q t → IsNear k p q (fraction_sub r t)

abbrev pub MultipliesTo : Model → Model → Model → Type 0
MultipliesTo m n k = (p q : ℤ) (r t : Fraction) → IsArgument p q → IsNear m p q r → IsNear n p q t → IsNear k p q (fraction_mul r t)

-- ---- of one model
abbrev pub SquaresTo : Model → Model → Type 0
SquaresTo m k = (p q : ℤ) (r : Fraction) → IsArgument p q → IsNear m p q r → IsNear k p q (fraction_signed_square r)

-- n times the numbers near m
abbrev pub RepeatsTo : ℕ → Model → Model → Type 0
RepeatsTo n m k = (p q : ℤ) (r : Fraction) → IsArgument p q → IsNear m p q r → IsNear k p q (fraction_mul (fraction (pos n) 1) r)

-- the numbers near m with the other sign
abbrev pub OpposesTo : Model → Model → Type 0
OpposesTo m k = (p q : ℤ) (r : Fraction) → IsArgument p q → IsNear m p q r → IsNear k p q (fraction (neg_ℤ r.numerator) r.denominator)

-- 2 / length times the numbers near m
abbrev pub ScalesTo : ℕ → Model → Model → Type 0
ScalesTo length m k = (p q : ℤ) (r : Fraction) → IsArgument p q → IsNear m p q r → IsNear k p q (fraction_scale r length)

-- ---- signs: all numbers near m are at least 0, or at most 0
abbrev pub IsNotNegative : Model → Type 0
IsNotNegative m = (p q : ℤ) (r : Fraction) → IsArgument p q → IsNear m p q r → pos 0 ≤ℤ r.numerator

abbrev pub IsNotPositive : Model → Type 0
IsNotPositive m = (p q : ℤ) (r : Fraction) → IsArgument p q → IsNear m p q r → r.numerator ≤ℤ pos 0

-- ---- what is rounded
-- no number near the model is greater in size
abbrev pub greatest : Model → Fraction
greatest m = in_units (pos (bulk m)) m.exponent

-- d units of the model are at least r
abbrev pub IsUpto : ℕ → Model → Fraction → Type 0
IsUpto d k r = NoMore r (in_units (pos d) k.exponent)

-- and at least what rounding may lose of numbers up to r in size
abbrev pub IsEnough : ℕ → Model → Fraction → Type 0
IsEnough d k r = IsUpto d k (slight r)

-- what scaling a number in units of 2^s may lose where it is near m: two units, and a little of what is scaled
abbrev pub scaled_loss : ℤ → Model → ℕ → Fraction
scaled_loss s m length = fraction_add (in_units (pos 2) s) (slight (fraction_scale (greatest m) length))
