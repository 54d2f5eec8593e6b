-- Comparing fractions of different denominators: what an interval holds between two values, and equal values.
use Rattle.std.proofs.Common.{◌≡◌, ◌*◌, ◌^◌, arith, ℤ, pos, ◌*ℤ◌, ◌≤ℤ◌}
use Rattle.std.proofs.lemmas.Int.{ints}
use borrow.Author.Differences.{up, down}
use Rattle.spec_numbers.proofs.Integers.{exchanged_inner, exchanged_scales}
use Rattle.spec_numbers.proofs.Order.{lin, le-mul, le-mul_cancel}
use Rattle.spec_intervals.specs.Fraction.{Fraction, IsFraction, Holds, AtMost, AtLeast}
use Rattle.spec_intervals.specs.Interval.{Interval, zero_interval}

-- a <= b, with nothing divided
abbrev pub fraction_le : Fraction → Fraction → Type 0
fraction_le a b = (a.numerator *ℤ pos b.denominator) ≤ℤ (b.numerator *ℤ pos a.denominator)

pub AtMost-le : (z s : ℤ) (a b : Fraction) → IsFraction a → fraction_le a b → AtMost z s a → AtMost z s b
AtMost-le z s a b p h g =
    let x : (z *ℤ pos (2 ^ up s * a.denominator) *ℤ pos b.denominator) ≤ℤ (a.numerator *ℤ pos (2 ^ down s) *ℤ pos b.denominator) = le-mul (z *ℤ pos (2 ^ up s * a.denominator)) (a.numerator *ℤ pos (2 ^ down s)) (pos b.denominator) (omega (arith, lin)) g in
    let y : (a.numerator *ℤ pos b.denominator *ℤ pos (2 ^ down s)) ≤ℤ (b.numerator *ℤ pos a.denominator *ℤ pos (2 ^ down s)) = le-mul (a.numerator *ℤ pos b.denominator) (b.numerator *ℤ pos a.denominator) (pos (2 ^ down s)) (omega (arith, lin)) h in
    let e = exchanged_inner z (2 ^ up s) a.denominator b.denominator in
    let f = exchanged_scales a.numerator (2 ^ down s) b.denominator in
    let g' = exchanged_scales b.numerator a.denominator (2 ^ down s) in
    le-mul_cancel (z *ℤ pos (2 ^ up s * b.denominator)) (b.numerator *ℤ pos (2 ^ down s)) a.denominator p (omega (arith, lin))

pub AtLeast-le : (z s : ℤ) (a b : Fraction) → IsFraction b → fraction_le a b → AtLeast z s b → AtLeast z s a
AtLeast-le z s a b p h g =
    let x : (b.numerator *ℤ pos (2 ^ down s) *ℤ pos a.denominator) ≤ℤ (z *ℤ pos (2 ^ up s * b.denominator) *ℤ pos a.denominator) = le-mul (b.numerator *ℤ pos (2 ^ down s)) (z *ℤ pos (2 ^ up s * b.denominator)) (pos a.denominator) (omega (arith, lin)) g in
    let y : (a.numerator *ℤ pos b.denominator *ℤ pos (2 ^ down s)) ≤ℤ (b.numerator *ℤ pos a.denominator *ℤ pos (2 ^ down s)) = le-mul (a.numerator *ℤ pos b.denominator) (b.numerator *ℤ pos a.denominator) (pos (2 ^ down s)) (omega (arith, lin)) h in
    let e = exchanged_inner z (2 ^ up s) b.denominator a.denominator in
    let f = exchanged_scales b.numerator (2 ^ down s) a.denominator in
    let g' = exchanged_scales a.numerator b.denominator (2 ^ down s) in
    le-mul_cancel (a.numerator *ℤ pos (2 ^ down s)) (z *ℤ pos (2 ^ up s * a.denominator)) b.denominator p (omega (arith, lin))

-- an interval holds what lies between two values that it holds
pub Holds-between : (t : Interval) (a x b : Fraction) → IsFraction a → IsFraction b → fraction_le a x → fraction_le x b → Holds t a → Holds t b → Holds t x
Holds-between t a x b p q f g h k = record { low = AtMost-le t.lo t.s a x p f h.low; high = AtLeast-le t.hi t.s x b q g k.high }

-- and each other form of a value that it holds
pub Holds-same : (t : Interval) (a b : Fraction) → IsFraction a → a.numerator *ℤ pos b.denominator ≡ b.numerator *ℤ pos a.denominator → Holds t a → Holds t b
Holds-same t a b p e h =
    Holds-between t a b a p p (omega (arith, lin)) (omega (arith, lin)) h h

-- ends further apart hold no less
pub AtMost-less : (w z s : ℤ) (r : Fraction) → w ≤ℤ z → AtMost z s r → AtMost w s r
AtMost-less w z s r h g =
    let x : (w *ℤ pos (2 ^ up s * r.denominator)) ≤ℤ (z *ℤ pos (2 ^ up s * r.denominator)) = le-mul w z (pos (2 ^ up s * r.denominator)) (omega (arith, lin)) h in omega (arith, lin)

pub AtLeast-more : (z w s : ℤ) (r : Fraction) → z ≤ℤ w → AtLeast z s r → AtLeast w s r
AtLeast-more z w s r h g =
    let x : (z *ℤ pos (2 ^ up s * r.denominator)) ≤ℤ (w *ℤ pos (2 ^ up s * r.denominator)) = le-mul z w (pos (2 ^ up s * r.denominator)) (omega (arith, lin)) h in omega (arith, lin)

pub fraction_le-signs : (a b : Fraction) → a.numerator ≤ℤ pos 0 → pos 0 ≤ℤ b.numerator → fraction_le a b
fraction_le-signs a b h g =
    let x : (a.numerator *ℤ pos b.denominator) ≤ℤ (pos 0 *ℤ pos b.denominator) = le-mul a.numerator (pos 0) (pos b.denominator) (omega (arith, lin)) h in
    let y : (pos 0 *ℤ pos a.denominator) ≤ℤ (b.numerator *ℤ pos a.denominator) = le-mul (pos 0) b.numerator (pos a.denominator) (omega (arith, lin)) g in
    omega (arith, ints)

pub fraction_le-over : (a b : Fraction) → a.denominator ≡ b.denominator → a.numerator ≤ℤ b.numerator → fraction_le a b
fraction_le-over a b e h =
    rw e (le-mul a.numerator b.numerator (pos b.denominator) (omega (arith, lin)) h)

-- 0 alone holds 0
pub Holds-zero : (r : Fraction) → r.numerator ≡ pos 0 → Holds zero_interval r
Holds-zero r e = record { low = rw e (omega (arith, ints)); high = rw e (omega (arith, ints)) }
