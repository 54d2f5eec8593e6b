-- How many units are enough, and what covers what rules make.
use Rattle.std.proofs.Common.{◌≡◌, ℕ, ◌+◌, ◌*◌, ◌/◌, ◌^◌, ◌<◌, ◌≤◌, min, arith, sym, subst, List, [], ◌∷◌, length, get_or, ℤ, pos, neg_ℤ, ◌+ℤ◌, ◌-ℤ◌, ◌*ℤ◌, ◌≤ℤ◌, unsigned_abs, Option, IfSome}
use Rattle.std.proofs.lemmas.Int.{ints, clamps}
use Rattle.std.proofs.lemmas.Nat.{mul-le, pow-add, pow_pos}
use Rattle.std.proofs.lemmas.Option.{IfSome_then}
use Rattle.std.proofs.Math.Nat.{lt-div-mul-add, pow-le-pow_right}
use Rattle.std.specs.Int.{int_min}
use Rattle.spec_intervals.specs.Fraction.{Fraction, fraction_add, fraction_mul}
use Rattle.spec_intervals.specs.Interval.{Interval, sum, difference, product, signed_square}
use Rattle.spec_chebyshev.specs.Differences.{IsArgument}
use Rattle.spec_models.specs.Models.{Covers, Model, bulk, model, sizes, widened}
use Rattle.spec_covers.specs.Combining.{AddsTo, IsEnough, IsNotNegative, IsNotPositive, MultipliesTo, SquaresTo, SubtractsTo, greatest}
use Rattle.span_models.specs.Sizes.{terms}
use Rattle.span_models.specs.Covering.{IsWidenedFor}

-- ---- units for sums
sums_fit : (x y d a b g : ℕ) → a ≤ g → b ≤ g → x + y ≤ d * 2 ^ 58 → x * 2 ^ a + y * 2 ^ b ≤ d * 2 ^ (58 + g)
sums_fit x y d a b g ha hb h =
    let pa : 2 ^ a ≤ 2 ^ g = pow-le-pow_right (omega arith) ha in
    let pb : 2 ^ b ≤ 2 ^ g = pow-le-pow_right (omega arith) hb in
    let qa : x * 2 ^ a ≤ x * 2 ^ g = mul-le x (2 ^ a) x (2 ^ g) (omega arith) pa in
    let qb : y * 2 ^ b ≤ y * 2 ^ g = mul-le y (2 ^ b) y (2 ^ g) (omega arith) pb in
    let q : (x + y) * 2 ^ g ≤ (d * 2 ^ 58) * 2 ^ g = mul-le (x + y) (2 ^ g) (d * 2 ^ 58) (2 ^ g) h (omega arith) in
    let e : 2 ^ (58 + g) ≡ 2 ^ 58 * 2 ^ g = pow-add 2 58 g in
    rw e (omega (arith, qa, qb, q))

pub sum_enough : ((m n k : Model) (d a b g : ℕ) (t : ℤ) → m.exponent ≡ t +ℤ pos a → n.exponent ≡ t +ℤ pos b → k.exponent ≡ t +ℤ pos g → bulk m * 2 ^ a + bulk n * 2 ^ b ≤ d * 2 ^ (58 + g) → IsEnough d k (fraction_add (greatest m) (greatest n)))
    → (m n k : Model) (d : ℕ) → m.exponent ≤ℤ k.exponent → n.exponent ≤ℤ k.exponent → bulk m + bulk n ≤ d * 2 ^ 58 → IsEnough d k (fraction_add (greatest m) (greatest n))
sum_enough law m n k d hm hn h =
    let t : ℤ = int_min m.exponent n.exponent in
    law m n k d (unsigned_abs (m.exponent -ℤ int_min m.exponent n.exponent)) (unsigned_abs (n.exponent -ℤ int_min m.exponent n.exponent)) (unsigned_abs (k.exponent -ℤ int_min m.exponent n.exponent)) (int_min m.exponent n.exponent) (omega (arith, ints, clamps)) (omega (arith, ints, clamps)) (omega (arith, ints, clamps, hm, hn))
    (sums_fit (bulk m) (bulk n) d (unsigned_abs (m.exponent -ℤ int_min m.exponent n.exponent)) (unsigned_abs (n.exponent -ℤ int_min m.exponent n.exponent)) (unsigned_abs (k.exponent -ℤ int_min m.exponent n.exponent)) (omega (arith, ints, clamps, hm, hn)) (omega (arith, ints, clamps, hm, hn)) h)

-- ---- units for products
pub product_units : (z g c : ℕ) → c ≡ min g 69 → z ≤ (z / 2 ^ (58 + c) + 1) * 2 ^ (58 + g)
product_units z g c e =
    let p : z < z / 2 ^ (58 + c) * 2 ^ (58 + c) + 2 ^ (58 + c) = lt-div-mul-add (pow_pos (58 + c)) in
    let few : 58 + c ≤ 58 + g = omega (arith, e) in
    let q : 2 ^ (58 + c) ≤ 2 ^ (58 + g) = pow-le-pow_right (omega arith) few in
    let r : (z / 2 ^ (58 + c) + 1) * 2 ^ (58 + c) ≤ (z / 2 ^ (58 + c) + 1) * 2 ^ (58 + g) = mul-le (z / 2 ^ (58 + c) + 1) (2 ^ (58 + c)) (z / 2 ^ (58 + c) + 1) (2 ^ (58 + g)) (omega arith) q in
    omega (arith, p, r)

-- ---- a widened model
pub widened_for : (r : Fraction) (k : Model) (d : ℕ) → IsEnough d k r → (o : Option Model) → IfSome o (λ l. l ≡ widened d k) → IfSome o (IsWidenedFor r k)
widened_for r k d enough o h = IfSome_then o {P = λ l. l ≡ widened d k} {Q = IsWidenedFor r k} h (λ l is. record { units = d; is = is; enough = enough })

-- ---- what is covered
pub sum_covered : ((m n k : Model) (d : ℕ) → AddsTo m n k → IsEnough d k (fraction_add (greatest m) (greatest n)) → (p q : ℤ) (x y : Interval) → IsArgument p q → Covers m p q x → Covers n p q y → Covers (widened d k) p q (sum x y))
    → (m n k : Model) → AddsTo m n k → (o : Option Model) → IfSome o (IsWidenedFor (fraction_add (greatest m) (greatest n)) k)
    → IfSome o (λ l. (p q : ℤ) (x y : Interval) → IsArgument p q → x.lo ≤ℤ x.hi → y.lo ≤ℤ y.hi → Covers m p q x → Covers n p q y → Covers l p q (sum x y))
sum_covered law m n k is o h =
    IfSome_then o {P = IsWidenedFor (fraction_add (greatest m) (greatest n)) k} {Q = λ l. (p q : ℤ) (x y : Interval) → IsArgument p q → x.lo ≤ℤ x.hi → y.lo ≤ℤ y.hi → Covers m p q x → Covers n p q y → Covers l p q (sum x y)} h (λ l w p q x y g ox oy cx cy. subst (λ (z : Model). Covers z p q (sum x y)) (sym w.is) (law m n k w.units is w.enough p q x y g cx cy))

pub difference_covered : ((m n k : Model) (d : ℕ) → SubtractsTo m n k → IsEnough d k (fraction_add (greatest m) (greatest n)) → (p q : ℤ) (x y : Interval) → IsArgument p q → Covers m p q x → Covers n p q y → Covers (widened d k) p q (difference x y))
    → (m n k : Model) → SubtractsTo m n k → (o : Option Model) → IfSome o (IsWidenedFor (fraction_add (greatest m) (greatest n)) k)
    → IfSome o (λ l. (p q : ℤ) (x y : Interval) → IsArgument p q → x.lo ≤ℤ x.hi → y.lo ≤ℤ y.hi → Covers m p q x → Covers n p q y → Covers l p q (difference x y))
difference_covered law m n k is o h =
    IfSome_then o {P = IsWidenedFor (fraction_add (greatest m) (greatest n)) k} {Q = λ l. (p q : ℤ) (x y : Interval) → IsArgument p q → x.lo ≤ℤ x.hi → y.lo ≤ℤ y.hi → Covers m p q x → Covers n p q y → Covers l p q (difference x y)} h (λ l w p q x y g ox oy cx cy. subst (λ (z : Model). Covers z p q (difference x y)) (sym w.is) (law m n k w.units is w.enough p q x y g cx cy))

pub product_covered : ((m n k : Model) (d : ℕ) → MultipliesTo m n k → IsEnough d k (fraction_mul (greatest m) (greatest n)) → (p q : ℤ) (x y : Interval) → IsArgument p q → Covers m p q x → Covers n p q y → Covers (widened d k) p q (product x y))
    → (m n k : Model) → MultipliesTo m n k → (o : Option Model) → IfSome o (IsWidenedFor (fraction_mul (greatest m) (greatest n)) k)
    → IfSome o (λ l. (p q : ℤ) (x y : Interval) → IsArgument p q → x.lo ≤ℤ x.hi → y.lo ≤ℤ y.hi → Covers m p q x → Covers n p q y → Covers l p q (product x y))
product_covered law m n k is o h =
    IfSome_then o {P = IsWidenedFor (fraction_mul (greatest m) (greatest n)) k} {Q = λ l. (p q : ℤ) (x y : Interval) → IsArgument p q → x.lo ≤ℤ x.hi → y.lo ≤ℤ y.hi → Covers m p q x → Covers n p q y → Covers l p q (product x y)} h (λ l w p q x y g ox oy cx cy. subst (λ (z : Model). Covers z p q (product x y)) (sym w.is) (law m n k w.units is w.enough p q x y g cx cy))

pub square_covered : ((m k : Model) (d : ℕ) → SquaresTo m k → IsEnough d k (fraction_mul (greatest m) (greatest m)) → (p q : ℤ) (x : Interval) → IsArgument p q → Covers m p q x → Covers (widened d k) p q (signed_square x))
    → (m k : Model) → SquaresTo m k → (o : Option Model) → IfSome o (IsWidenedFor (fraction_mul (greatest m) (greatest m)) k)
    → IfSome o (λ l. (p q : ℤ) (x : Interval) → IsArgument p q → x.lo ≤ℤ x.hi → Covers m p q x → Covers l p q (signed_square x))
square_covered law m k is o h =
    IfSome_then o {P = IsWidenedFor (fraction_mul (greatest m) (greatest m)) k} {Q = λ l. (p q : ℤ) (x : Interval) → IsArgument p q → x.lo ≤ℤ x.hi → Covers m p q x → Covers l p q (signed_square x)} h (λ l w p q x g ox cx. subst (λ (z : Model). Covers z p q (signed_square x)) (sym w.is) (law m k w.units is w.enough p q x g cx))

-- ---- signs by the first coefficient z and the size of all that is known of the model
pub not_negative : ((x : ℤ) (xs : List ℤ) (e : ℕ) (s : ℤ) → pos (sizes xs + e) ≤ℤ x → IsNotNegative (model (x ∷ xs) e s))
    → (xs : List ℤ) (e : ℕ) (s z : ℤ) (size : ℕ) → length xs ≡ terms → z ≡ get_or xs 0 (pos 0) → size ≡ sizes xs + e → pos size ≤ℤ (pos 2 *ℤ z) → IsNotNegative (model xs e s)
not_negative law [] e s z size count first whole h = absurd (omega (arith, count))
not_negative law (x ∷ xs) e s z size count first whole h = law x xs e s (omega (arith, ints, first, whole, h))

pub not_positive : ((x : ℤ) (xs : List ℤ) (e : ℕ) (s : ℤ) → pos (sizes xs + e) ≤ℤ neg_ℤ x → IsNotPositive (model (x ∷ xs) e s))
    → (xs : List ℤ) (e : ℕ) (s z : ℤ) (size : ℕ) → length xs ≡ terms → z ≡ get_or xs 0 (pos 0) → size ≡ sizes xs + e → pos size ≤ℤ neg_ℤ (pos 2 *ℤ z) → IsNotPositive (model xs e s)
not_positive law [] e s z size count first whole h = absurd (omega (arith, count))
not_positive law (x ∷ xs) e s z size count first whole h = law x xs e s (omega (arith, ints, first, whole, h))
