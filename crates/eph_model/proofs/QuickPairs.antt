-- A size in units, by a quotient of smaller numbers, and the pair of a number by the quotient of its size.
use Rattle.std.proofs.Common.{IfSome, Option, None, Some, ◌≡◌, ℕ, zero, suc, ◌+◌, ◌-◌, ◌*◌, ◌/◌, ◌^◌, ◌<◌, ◌≤◌, min, refl, sym, ap, ◌∙◌, subst, arith, ℤ, pos, negsuc, neg_ℤ, ◌*ℤ◌, ◌+ℤ◌, ◌≤ℤ◌, unsigned_abs}
use Rattle.std.proofs.lemmas.Int.{ints}
use Rattle.std.proofs.lemmas.Nat.{div-mul-add, mul-pow, pow-add, pow_pos}
use Rattle.std.proofs.Math.Nat.{add-mul, mul_assoc, mul-lt-mul_of_pos_right, mul-le-mul_left, mul-le-mul_right, pow-le-pow_right}
use Rattle.std.proofs.Math.IntN.{neg_ℤ-neg_ℤ}
use Rattle.spec_numbers.specs.Numbers.{floor_div, ceil_div}
use Rattle.spec_numbers.proofs.Floor.{ceil_div-exact, ceil_div-next}
use Rattle.spec_text.specs.declared.decimals.Decimal.{Decimal}
use Rattle.spec_intervals.specs.Interval.{from_decimal}
use Rattle.spec_intervals.proofs.DecimalEnds.{tenths-low, tenths-high}
use Rattle.spec_ephemeris.specs.declared.granule.Rounded.{Rounded}
use Rattle.spec_ephemeris.specs.Rounding.{pair_of}
use Rattle.eph_model.specs.Quotients.{IsQuotient, IsOf}
use Rattle.eph_model.specs.declared.quick.Quotient.{Quotient}

-- ---- the powers
ten_is : (n : ℕ) → 10 ^ n ≡ (5 ^ n * 2 ^ (n - 24)) * 2 ^ min n 24
ten_is n =
    let sum : (n - 24) + min n 24 ≡ n = omega arith in
    mul-pow 5 2 n ∙ ap (λ (k : ℕ). 5 ^ n * 2 ^ k) (sym sum) ∙ ap (λ (x : ℕ). 5 ^ n * x) (pow-add 2 (n - 24) (min n 24))
    ∙ sym (mul_assoc (5 ^ n) (2 ^ (n - 24)) (2 ^ min n 24))

unit_is : (n : ℕ) → 2 ^ 24 ≡ 2 ^ (24 - n) * 2 ^ min n 24
unit_is n =
    let sum : (24 - n) + min n 24 ≡ 24 = omega arith in
    ap (λ (k : ℕ). 2 ^ k) (sym sum) ∙ pow-add 2 (24 - n) (min n 24)

none_times : (r w : ℕ) → r ≡ 0 → r * w ≡ 0
none_times r w is = let zero_times : 0 * w ≡ 0 = omega arith in ap (λ (k : ℕ). k * w) is ∙ zero_times

some_times : (r w : ℕ) → 0 < w → 1 ≤ r → 1 ≤ r * w
some_times r w above some = let one : 1 * w ≤ r * w = mul-le-mul_right w some in omega (arith, above, one)

pub scaled : (size n q r : ℕ) → q * (5 ^ n * 2 ^ (n - 24)) + r ≡ size * 2 ^ (24 - n) → r < 5 ^ n * 2 ^ (n - 24) → IsQuotient size n q r
scaled size n q r parts less =
    let d = 5 ^ n * 2 ^ (n - 24) in
    let w = 2 ^ min n 24 in
    let some : 0 < w = pow_pos (min n 24) in
    record {
      rest = r * w;
      parts = ap (λ (x : ℕ). q * x + r * w) (ten_is n) ∙ ap (λ (x : ℕ). x + r * w) (sym (mul_assoc q d w)) ∙ sym (add-mul (q * d) r w)
          ∙ ap (λ (x : ℕ). x * w) parts ∙ mul_assoc size (2 ^ (24 - n)) w ∙ ap (λ (x : ℕ). size * x) (sym (unit_is n));
      less = subst (λ (x : ℕ). r * w < x) (sym (ten_is n)) (mul-lt-mul_of_pos_right less some);
      none = none_times r w;
      some = some_times r w some;
    }

pub tiny : (size n : ℕ) → size ≤ 2 ^ 64 → 26 < n → IsQuotient size n 0 size
tiny size n small many =
    let power : 10 ^ 27 ≤ 10 ^ n = pow-le-pow_right (omega arith) many in
    let zero_times : 0 * 10 ^ n + size * 2 ^ 24 ≡ size * 2 ^ 24 = omega arith in
    record {
      rest = size * 2 ^ 24;
      parts = zero_times;
      less = omega (arith, power, small);
      none = λ is. omega (arith, is);
      some = λ is. omega (arith, is);
    }

-- ---- the pair
small_quotient : (size n q rest : ℕ) → size ≤ 2 ^ 63 → 9 ≤ n → q * 10 ^ n + rest ≡ size * 2 ^ 24 → q ≤ 2 ^ 60
small_quotient size n q rest small many parts =
    let power : 10 ^ 9 ≤ 10 ^ n = pow-le-pow_right (omega arith) many in
    let times : q * 10 ^ 9 ≤ q * 10 ^ n = mul-le-mul_left q power in
    omega (arith, parts, small, times)

places_many : (e : ℤ) → e ≤ℤ neg_ℤ (pos 9) → 9 ≤ unsigned_abs e
places_many (pos n) low = absurd (omega (arith, ints, low))
places_many (negsuc n) low = omega (arith, ints, low)

pub quotient_fits : (d : Decimal) (q left : ℕ) → IsOf d q left → q ≤ 2 ^ 60
quotient_fits d q left of = small_quotient _ (unsigned_abs d.exp) q of.is.rest of.size (places_many d.exp of.small) of.is.parts

low_is : (x n q rest : ℕ) → q * 10 ^ n + rest ≡ x → rest < 10 ^ n → floor_div (pos x) (10 ^ n) ≡ pos q
low_is x n q rest parts less = ap pos (ap (λ (y : ℕ). y / 10 ^ n) (sym parts) ∙ div-mul-add q (10 ^ n) rest less)

high_is : (x n q rest left high : ℕ) → q * 10 ^ n + rest ≡ x → rest < 10 ^ n → (left ≡ 0 → rest ≡ 0) → (1 ≤ left → 1 ≤ rest)
    → (left ≡ 0 → high ≡ q) → (1 ≤ left → high ≡ q + 1) → ceil_div (pos x) (10 ^ n) ≡ pos high
high_is x n q rest zero high parts less none some exact next =
    let gone : rest ≡ 0 = none refl in
    let whole : q * 10 ^ n ≡ x = omega (arith, parts, gone) in
    let low = low_is x n q rest parts less in
    ceil_div-exact (pos x) (10 ^ n) (omega (arith, less)) (ap (λ (z : ℤ). z *ℤ pos (10 ^ n)) low ∙ ap pos whole) ∙ low ∙ ap pos (sym (exact refl))
high_is x n q rest (suc left) high parts less none some exact next =
    let one : 1 ≤ suc left = omega arith in
    let low = low_is x n q rest parts less in
    let not_whole : floor_div (pos x) (10 ^ n) *ℤ pos (10 ^ n) ≡ pos x → ⊥ =
    λ e. let whole : q * 10 ^ n ≡ x = ap unsigned_abs (ap (λ (z : ℤ). z *ℤ pos (10 ^ n)) (sym low) ∙ e) in omega (arith, parts, whole, some one) in
    ceil_div-next (pos x) (10 ^ n) (omega (arith, less)) not_whole ∙ ap (λ (z : ℤ). z +ℤ pos 1) low ∙ ap pos (sym (next one))

abs_above : (m : ℤ) (k : ℕ) → pos 0 ≤ℤ m → m *ℤ pos k ≡ pos (unsigned_abs m * k)
abs_above (pos n) k above = refl
abs_above (negsuc n) k above = absurd (omega (arith, ints, above))

abs_below : (m : ℤ) (k : ℕ) → m ≤ℤ pos 0 → m *ℤ pos k ≡ neg_ℤ (pos (unsigned_abs m * k))
abs_below (pos n) k below =
    let none : n ≡ 0 = omega (arith, ints, below) in
    let zero_times : 0 * k ≡ 0 = omega arith in
    rw (none, zero_times) refl
abs_below (negsuc n) k below = refl

below_zero : (e : ℤ) → e ≤ℤ neg_ℤ (pos 9) → e ≤ℤ pos 0
below_zero e low = omega (arith, ints, low)

abbrev pub pair : ℤ → ℤ → Rounded
pair lo hi = record { lo = lo; hi = hi }

module _ (d : Decimal) (q left high : ℕ) (of : IsOf d q left) (exact : left ≡ 0 → high ≡ q) (next : 1 ≤ left → high ≡ q + 1) where
  abbrev x : ℕ
  x = unsigned_abs d.mant * 2 ^ 24

  abbrev n : ℕ
  n = unsigned_abs d.exp

  low : floor_div (pos x) (10 ^ n) ≡ pos q
  low = low_is x n q of.is.rest of.is.parts of.is.less

  top : ceil_div (pos x) (10 ^ n) ≡ pos high
  top = high_is x n q of.is.rest left high of.is.parts of.is.less of.is.none of.is.some exact next

  abbrev minus : ℤ
  minus = neg_ℤ (pos x)

  pub pair_above : pos 0 ≤ℤ d.mant → pair (pos q) (pos high) ≡ pair_of d
  unfolding from_decimal
  pair_above above =
      let z = abs_above d.mant (2 ^ 24) above in
      let lo = tenths-low d.mant d.exp (negsuc 23) (omega (arith, ints)) (below_zero d.exp of.small) ∙ ap (λ (t : ℤ). floor_div t (10 ^ n)) z ∙ low in
      let hi = tenths-high d.mant d.exp (negsuc 23) (omega (arith, ints)) (below_zero d.exp of.small) ∙ ap (λ (t : ℤ). ceil_div t (10 ^ n)) z ∙ top in
      λ i. pair (sym lo i) (sym hi i)

  pub pair_below : d.mant ≤ℤ pos 0 → pair (neg_ℤ (pos high)) (neg_ℤ (pos q)) ≡ pair_of d
  unfolding from_decimal
  pair_below below =
      let z = abs_below d.mant (2 ^ 24) below in
      let down : floor_div minus (10 ^ n) ≡ neg_ℤ (pos high) = sym (neg_ℤ-neg_ℤ (floor_div minus (10 ^ n))) ∙ ap neg_ℤ top in
      let up : ceil_div minus (10 ^ n) ≡ neg_ℤ (pos q) = ap (λ (t : ℤ). neg_ℤ (floor_div t (10 ^ n))) (neg_ℤ-neg_ℤ (pos x)) ∙ ap neg_ℤ low in
      let lo = tenths-low d.mant d.exp (negsuc 23) (omega (arith, ints)) (below_zero d.exp of.small) ∙ ap (λ (t : ℤ). floor_div t (10 ^ n)) z ∙ down in
      let hi = tenths-high d.mant d.exp (negsuc 23) (omega (arith, ints)) (below_zero d.exp of.small) ∙ ap (λ (t : ℤ). ceil_div t (10 ^ n)) z ∙ up in
      λ i. pair (sym lo i) (sym hi i)

-- what a checked guess tells
checked_one : (size n u d top : ℕ) (q : Quotient) → u ≡ 2 ^ (24 - n) → d ≡ 5 ^ n * 2 ^ (n - 24) → top ≡ size * u → q.quotient * d + q.left ≡ top
    → q.left < d → IsQuotient size n q.quotient q.left
checked_one size n u d top q unit divider whole parts less =
    scaled size n q.quotient q.left
    (ap (λ (x : ℕ). q.quotient * x + q.left) (sym divider) ∙ parts ∙ whole ∙ ap (λ (x : ℕ). size * x) unit)
    (subst (λ (x : ℕ). q.left < x) divider less)

pub near : (size n u d top : ℕ) (r : Option Quotient) → u ≡ 2 ^ (24 - n) → d ≡ 5 ^ n * 2 ^ (n - 24) → top ≡ size * u
    → IfSome r (λ q. q.quotient * d + q.left ≡ top) → IfSome r (λ q. q.left < d) → IfSome r (λ q. IsQuotient size n q.quotient q.left)
near size n u d top None unit divider whole parts less = tt
near size n u d top (Some q) unit divider whole parts less = checked_one size n u d top q unit divider whole parts less
