-- The sum of two intervals holds the sum of what they hold.
use Rattle.std.proofs.Common.{◌≡◌, ℕ, zero, suc, ◌+◌, ◌-◌, ◌*◌, ◌^◌, min, arith, refl, ap, ◌∙◌, [], ◌∷◌, ℤ, pos, negsuc, ◌+ℤ◌, ◌*ℤ◌, ◌≤ℤ◌, Bool, true, false, ◌&&◌}
use Rattle.std.specs.Prelude.{if◌then◌else◌}
use Rattle.std.proofs.lemmas.Int.{ints}
use Rattle.std.proofs.lemmas.Nat.{pow_pos}
use Rattle.std.specs.Int.{int_gap}
use lib.Signed.{le_z}
use borrow.Author.Differences.{up, down}
use Rattle.spec_intervals.specs.Interval.{Interval, surplus, lift, sum_up, sum, is_zero, zero_end}
use Rattle.spec_numbers.specs.Numbers.{floor_div, ceil_div}
use Rattle.spec_intervals.specs.Fraction.{Fraction, Holds, AtMost, AtLeast, fraction_add}
use Rattle.spec_numbers.proofs.Ring.{v, k as lit, ◌⊕◌, ◌⊗◌, ring}
use Rattle.spec_numbers.proofs.Order.{lin, le-mul, le-mul_cancel}
use Rattle.spec_intervals.proofs.Narrow.{rescale_low, rescale_high, shifted, low-floor, high-ceil, Holds-narrow}

-- y * 2^m at an exponent m lower
pub lift_low : (z s e : ℤ) (m : ℕ) (r : Fraction) → s ≡ e +ℤ pos m → AtMost z s r → AtMost (z *ℤ pos (2 ^ m)) e r
lift_low z s e m r q h =
    let w : (z *ℤ pos (2 ^ (up e + m) * r.denominator)) ≤ℤ (r.numerator *ℤ pos (2 ^ down e)) = rescale_low z r.numerator r.denominator (up s) (down s) (up e + m) (down e) (omega (arith, lin)) h in
    rw (shifted z (up e) m r.denominator) w

pub lift_high : (z s e : ℤ) (m : ℕ) (r : Fraction) → s ≡ e +ℤ pos m → AtLeast z s r → AtLeast (z *ℤ pos (2 ^ m)) e r
lift_high z s e m r q h =
    let w : (r.numerator *ℤ pos (2 ^ down e)) ≤ℤ (z *ℤ pos (2 ^ (up e + m) * r.denominator)) = rescale_high z r.numerator r.denominator (up s) (down s) (up e + m) (down e) (omega (arith, lin)) h in
    rw (shifted z (up e) m r.denominator) w

over : (p : ℤ) (e m n : ℕ) → p *ℤ pos (e * m) *ℤ pos n ≡ p *ℤ pos (e * (m * n))
over p e m n = ring (p ∷ pos e ∷ pos m ∷ pos n ∷ []) (v 0 ⊗ (v 1 ⊗ v 2) ⊗ v 3) (v 0 ⊗ (v 1 ⊗ (v 2 ⊗ v 3))) tt

over' : (p : ℤ) (e m n : ℕ) → p *ℤ pos (e * n) *ℤ pos m ≡ p *ℤ pos (e * (m * n))
over' p e m n = ring (p ∷ pos e ∷ pos m ∷ pos n ∷ []) (v 0 ⊗ (v 1 ⊗ v 3) ⊗ v 2) (v 0 ⊗ (v 1 ⊗ (v 2 ⊗ v 3))) tt

numerators : (a b : ℤ) (m n e : ℕ) → a *ℤ pos e *ℤ pos n +ℤ b *ℤ pos e *ℤ pos m ≡ (a *ℤ pos n +ℤ b *ℤ pos m) *ℤ pos e
numerators a b m n e =
    ring (a ∷ b ∷ pos m ∷ pos n ∷ pos e ∷ []) (v 0 ⊗ v 4 ⊗ v 3 ⊕ v 1 ⊗ v 4 ⊗ v 2) ((v 0 ⊗ v 3 ⊕ v 1 ⊗ v 2) ⊗ v 4) tt

ends : (p q : ℤ) (e : ℕ) → (p +ℤ q) *ℤ pos e ≡ p *ℤ pos e +ℤ q *ℤ pos e
ends p q e = ring (p ∷ q ∷ pos e ∷ []) ((v 0 ⊕ v 1) ⊗ v 2) (v 0 ⊗ v 2 ⊕ v 1 ⊗ v 2) tt

pub sum_low : (p q s : ℤ) (r t : Fraction) → AtMost p s r → AtMost q s t → AtMost (p +ℤ q) s (fraction_add r t)
sum_low p q s r t h g =
    let a : (p *ℤ pos (2 ^ up s * r.denominator) *ℤ pos t.denominator) ≤ℤ (r.numerator *ℤ pos (2 ^ down s) *ℤ pos t.denominator) = le-mul (p *ℤ pos (2 ^ up s * r.denominator)) (r.numerator *ℤ pos (2 ^ down s)) (pos t.denominator) (omega (arith, lin)) h in
    let b : (q *ℤ pos (2 ^ up s * t.denominator) *ℤ pos r.denominator) ≤ℤ (t.numerator *ℤ pos (2 ^ down s) *ℤ pos r.denominator) = le-mul (q *ℤ pos (2 ^ up s * t.denominator)) (t.numerator *ℤ pos (2 ^ down s)) (pos r.denominator) (omega (arith, lin)) g in
    let a' = over p (2 ^ up s) r.denominator t.denominator in
    let b' = over' q (2 ^ up s) r.denominator t.denominator in
    let n = numerators r.numerator t.numerator r.denominator t.denominator (2 ^ down s) in
    let e = ends p q (2 ^ up s * (r.denominator * t.denominator)) in
    omega (arith, lin)

pub sum_high : (p q s : ℤ) (r t : Fraction) → AtLeast p s r → AtLeast q s t → AtLeast (p +ℤ q) s (fraction_add r t)
sum_high p q s r t h g =
    let a : (r.numerator *ℤ pos (2 ^ down s) *ℤ pos t.denominator) ≤ℤ (p *ℤ pos (2 ^ up s * r.denominator) *ℤ pos t.denominator) = le-mul (r.numerator *ℤ pos (2 ^ down s)) (p *ℤ pos (2 ^ up s * r.denominator)) (pos t.denominator) (omega (arith, lin)) h in
    let b : (t.numerator *ℤ pos (2 ^ down s) *ℤ pos r.denominator) ≤ℤ (q *ℤ pos (2 ^ up s * t.denominator) *ℤ pos r.denominator) = le-mul (t.numerator *ℤ pos (2 ^ down s)) (q *ℤ pos (2 ^ up s * t.denominator)) (pos r.denominator) (omega (arith, lin)) g in
    let a' = over p (2 ^ up s) r.denominator t.denominator in
    let b' = over' q (2 ^ up s) r.denominator t.denominator in
    let n = numerators r.numerator t.numerator r.denominator t.denominator (2 ^ down s) in
    let e = ends p q (2 ^ up s * (r.denominator * t.denominator)) in
    omega (arith, lin)

-- the exponents of a sum meet
pub gap_is : (a b : ℤ) → a ≤ℤ b → b ≡ a +ℤ pos (int_gap a b)
gap_is (pos a) (pos b) h = omega (arith, lin)
gap_is (pos a) (negsuc b) h = omega (arith, lin)
gap_is (negsuc a) (pos b) h = omega (arith, lin)
gap_is (negsuc a) (negsuc b) h = omega (arith, lin)

pub meets : (a b : ℤ) → a ≤ℤ b → b ≡ (a +ℤ pos (int_gap a b - 60)) +ℤ pos (min (int_gap a b) 60)
meets a b h = let e : b ≡ a +ℤ pos (int_gap a b) = gap_is a b h in omega (arith, lin)

pub Holds-sum_up : (x y : Interval) (r t : Fraction) → x.s ≤ℤ y.s → Holds x r → Holds y t → Holds (sum_up x y) (fraction_add r t)
unfolding sum_up
Holds-sum_up x y r t h p q =
    let e : y.s ≡ (x.s +ℤ pos (surplus x y)) +ℤ pos (lift x y) = meets x.s y.s h in
    Holds-narrow (floor_div x.lo (2 ^ surplus x y) +ℤ y.lo *ℤ pos (2 ^ lift x y)) (ceil_div x.hi (2 ^ surplus x y) +ℤ y.hi *ℤ pos (2 ^ lift x y)) (x.s +ℤ pos (surplus x y)) (fraction_add r t) (sum_low (floor_div x.lo (2 ^ surplus x y)) (y.lo *ℤ pos (2 ^ lift x y)) (x.s +ℤ pos (surplus x y)) r t (low-floor x.lo x.s (surplus x y) r p.low) (lift_low y.lo y.s (x.s +ℤ pos (surplus x y)) (lift x y) t e q.low)) (sum_high (ceil_div x.hi (2 ^ surplus x y)) (y.hi *ℤ pos (2 ^ lift x y)) (x.s +ℤ pos (surplus x y)) r t (high-ceil x.hi x.s (surplus x y) r p.high) (lift_high y.hi y.s (x.s +ℤ pos (surplus x y)) (lift x y) t e q.high))

-- the interval of 0 alone holds 0 alone
pub zero_num : (x : Interval) (r : Fraction) → is_zero x ≡ true → Holds x r → r.numerator ≡ pos 0
zero_num x r z h = by x.lo x.hi z h.low h.high
  where
    by : (lo hi : ℤ) → (zero_end lo && zero_end hi) ≡ true → AtMost lo x.s r → AtLeast hi x.s r → r.numerator ≡ pos 0
    by (pos zero) (pos zero) z p q =
        let a : pos 0 ≤ℤ r.numerator = le-mul_cancel (pos 0) r.numerator (2 ^ down x.s) (pow_pos (down x.s)) (omega (arith, ints)) in
        let b : r.numerator ≤ℤ pos 0 = le-mul_cancel r.numerator (pos 0) (2 ^ down x.s) (pow_pos (down x.s)) (omega (arith, ints)) in
        omega (arith, lin)
    by (pos zero) (pos (suc n)) z p q = cc
    by (pos zero) (negsuc n) z p q = cc
    by (pos (suc n)) hi z p q = cc
    by (negsuc n) hi z p q = cc

-- adding 0 / m changes nothing
zero_add_low : (z s : ℤ) (r t : Fraction) → r.numerator ≡ pos 0 → AtMost z s t → AtMost z s (fraction_add r t)
zero_add_low z s r t e h =
    let a : (z *ℤ pos (2 ^ up s * t.denominator) *ℤ pos r.denominator) ≤ℤ (t.numerator *ℤ pos (2 ^ down s) *ℤ pos r.denominator) = le-mul (z *ℤ pos (2 ^ up s * t.denominator)) (t.numerator *ℤ pos (2 ^ down s)) (pos r.denominator) (omega (arith, lin)) h in
    let b = over' z (2 ^ up s) r.denominator t.denominator in
    let n : (r.numerator *ℤ pos t.denominator +ℤ t.numerator *ℤ pos r.denominator) *ℤ pos (2 ^ down s) ≡ t.numerator *ℤ pos (2 ^ down s) *ℤ pos r.denominator = ap (λ w. (w *ℤ pos t.denominator +ℤ t.numerator *ℤ pos r.denominator) *ℤ pos (2 ^ down s)) e ∙ ring (t.numerator ∷ pos r.denominator ∷ pos t.denominator ∷ pos (2 ^ down s) ∷ []) ((lit (pos 0) ⊗ v 2 ⊕ v 0 ⊗ v 1) ⊗ v 3) (v 0 ⊗ v 3 ⊗ v 1) tt in
    omega (arith, lin)

zero_add_high : (z s : ℤ) (r t : Fraction) → r.numerator ≡ pos 0 → AtLeast z s t → AtLeast z s (fraction_add r t)
zero_add_high z s r t e h =
    let a : (t.numerator *ℤ pos (2 ^ down s) *ℤ pos r.denominator) ≤ℤ (z *ℤ pos (2 ^ up s * t.denominator) *ℤ pos r.denominator) = le-mul (t.numerator *ℤ pos (2 ^ down s)) (z *ℤ pos (2 ^ up s * t.denominator)) (pos r.denominator) (omega (arith, lin)) h in
    let b = over' z (2 ^ up s) r.denominator t.denominator in
    let n : (r.numerator *ℤ pos t.denominator +ℤ t.numerator *ℤ pos r.denominator) *ℤ pos (2 ^ down s) ≡ t.numerator *ℤ pos (2 ^ down s) *ℤ pos r.denominator = ap (λ w. (w *ℤ pos t.denominator +ℤ t.numerator *ℤ pos r.denominator) *ℤ pos (2 ^ down s)) e ∙ ring (t.numerator ∷ pos r.denominator ∷ pos t.denominator ∷ pos (2 ^ down s) ∷ []) ((lit (pos 0) ⊗ v 2 ⊕ v 0 ⊗ v 1) ⊗ v 3) (v 0 ⊗ v 3 ⊗ v 1) tt in
    omega (arith, lin)

pub fraction_add-comm : (r t : Fraction) → fraction_add r t ≡ fraction_add t r
fraction_add-comm r t =
    let a : r.numerator *ℤ pos t.denominator +ℤ t.numerator *ℤ pos r.denominator ≡ t.numerator *ℤ pos r.denominator +ℤ r.numerator *ℤ pos t.denominator = omega (arith, lin) in
    let b : r.denominator * t.denominator ≡ t.denominator * r.denominator = omega arith in
    cc

pub Holds-sum : (x y : Interval) (r t : Fraction) → Holds x r → Holds y t → Holds (sum x y) (fraction_add r t)
unfolding sum
Holds-sum x y r t p q = by (is_zero x) (is_zero y) (le_z x.s y.s) refl refl refl
  where
    by : (a b c : Bool) → is_zero x ≡ a → is_zero y ≡ b → le_z x.s y.s ≡ c → Holds (if a then y else (if b then x else (if c then sum_up x y else sum_up y x))) (fraction_add r t)
    by true b c e f g = record { low = zero_add_low y.lo y.s r t (zero_num x r e p) q.low; high = zero_add_high y.hi y.s r t (zero_num x r e p) q.high }
    by false true c e f g = rw (fraction_add-comm r t) (record { low = zero_add_low x.lo x.s t r (zero_num y t f q) p.low; high = zero_add_high x.hi x.s t r (zero_num y t f q) p.high })
    by false false true e f g = Holds-sum_up x y r t (omega (arith, lin)) p q
    by false false false e f g = rw (fraction_add-comm r t) (Holds-sum_up y x t r (omega (arith, lin)) q p)
