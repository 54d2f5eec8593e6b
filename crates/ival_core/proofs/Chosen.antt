-- What the choice by zeros and by the order of exponents comes to in a sum.
use Rattle.std.proofs.Common.{◌≡◌, true, false, if◌then◌else◌, sym, ◌≤ℤ◌, ℤ, arith}
use Rattle.std.proofs.lemmas.Int.{ints}
use lib.Signed.{le_z}
use Rattle.spec_intervals.specs.Interval.{Interval, is_zero, sum, sum_up}

pub in_order : (s t : ℤ) → le_z s t ≡ true → s ≤ℤ t
in_order s t e = omega (arith, ints, e)

pub out_of_order : (s t : ℤ) → le_z s t ≡ false → t ≤ℤ s
out_of_order s t e = omega (arith, ints, e)

module _ (x y : Interval) where
  pub sum-zero : is_zero x ≡ true → y ≡ sum x y
  unfolding sum
  sum-zero e = λ i. if sym e i then y else (if is_zero y then x else (if le_z x.s y.s then sum_up x y else sum_up y x))

  pub sum-other_zero : is_zero x ≡ false → is_zero y ≡ true → x ≡ sum x y
  unfolding sum
  sum-other_zero e f = λ i. if sym e i then y else (if sym f i then x else (if le_z x.s y.s then sum_up x y else sum_up y x))

  pub sum-upward : is_zero x ≡ false → is_zero y ≡ false → le_z x.s y.s ≡ true → sum_up x y ≡ sum x y
  unfolding sum
  sum-upward e f g = λ i. if sym e i then y else (if sym f i then x else (if sym g i then sum_up x y else sum_up y x))

  pub sum-downward : is_zero x ≡ false → is_zero y ≡ false → le_z x.s y.s ≡ false → sum_up y x ≡ sum x y
  unfolding sum
  sum-downward e f g = λ i. if sym e i then y else (if sym f i then x else (if sym g i then sum_up x y else sum_up y x))
