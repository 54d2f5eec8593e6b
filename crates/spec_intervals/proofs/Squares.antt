-- The signed square.
use Rattle.std.proofs.Common.{◌≡◌, ℕ, suc, ◌+◌, ◌*◌, ◌^◌, arith, sym, ap, ◌∙◌, [], ◌∷◌, ℤ, pos, negsuc, ◌+ℤ◌, ◌*ℤ◌, ◌≤ℤ◌, unsigned_abs}
use Rattle.std.proofs.lemmas.Int.{ints}
use Rattle.std.proofs.lemmas.Nat.{pow-add}
use borrow.Author.Differences.{up, down}
use Rattle.spec_numbers.proofs.Ring.{v, ◌⊗◌, ring}
use Rattle.spec_numbers.proofs.Order.{lin, le-mul}
use Rattle.spec_intervals.specs.Fraction.{Fraction, Holds, AtMost, AtLeast, fraction_signed_square}
use Rattle.spec_intervals.proofs.Narrow.{rescale_low, rescale_high, Holds-narrow}
use Rattle.spec_intervals.specs.Interval.{Interval, signed_sq, signed_square}
use Rattle.spec_numbers.proofs.Sizes.{scaled_size}

-- z |z| grows with z
pub signed_sq-le : (x y : ℤ) → x ≤ℤ y → signed_sq x ≤ℤ signed_sq y
signed_sq-le (pos a) (pos b) h =
    let p : (pos a *ℤ pos a) ≤ℤ (pos b *ℤ pos a) = le-mul (pos a) (pos b) (pos a) (omega (arith, lin)) h in
    let q : (pos a *ℤ pos b) ≤ℤ (pos b *ℤ pos b) = le-mul (pos a) (pos b) (pos b) (omega (arith, lin)) h in
    let e : pos a *ℤ pos b ≡ pos b *ℤ pos a = ring (pos a ∷ pos b ∷ []) (v 0 ⊗ v 1) (v 1 ⊗ v 0) tt in
    omega (arith, lin)
signed_sq-le (pos a) (negsuc b) h = absurd (omega (arith, lin))
signed_sq-le (negsuc a) (pos b) h = omega (arith, ints)
signed_sq-le (negsuc a) (negsuc b) h =
    let p : (pos (suc b) *ℤ pos (suc b)) ≤ℤ (pos (suc a) *ℤ pos (suc b)) = le-mul (pos (suc b)) (pos (suc a)) (pos (suc b)) (omega (arith, lin)) (omega (arith, lin)) in
    let q : (pos (suc b) *ℤ pos (suc a)) ≤ℤ (pos (suc a) *ℤ pos (suc a)) = le-mul (pos (suc b)) (pos (suc a)) (pos (suc a)) (omega (arith, lin)) (omega (arith, lin)) in
    let e : pos (suc a) *ℤ pos (suc b) ≡ pos (suc b) *ℤ pos (suc a) = ring (pos (suc a) ∷ pos (suc b) ∷ []) (v 0 ⊗ v 1) (v 1 ⊗ v 0) tt in
    omega (arith, lin)

pub signed_sq-scaled : (z : ℤ) (n : ℕ) → signed_sq (z *ℤ pos n) ≡ signed_sq z *ℤ pos (n * n)
signed_sq-scaled z n =
    ap (λ m. z *ℤ pos n *ℤ pos m) (scaled_size z n) ∙ ring (z ∷ pos n ∷ pos (unsigned_abs z) ∷ []) (v 0 ⊗ v 1 ⊗ (v 2 ⊗ v 1)) (v 0 ⊗ v 2 ⊗ (v 1 ⊗ v 1)) tt

-- the comparison with p|p| for the comparison with p
square_low : (lo s : ℤ) (r : Fraction) → AtMost lo s r → AtMost (signed_sq lo) (s +ℤ s) (fraction_signed_square r)
square_low lo s r h =
    let g : signed_sq (lo *ℤ pos (2 ^ up s * r.denominator)) ≤ℤ signed_sq (r.numerator *ℤ pos (2 ^ down s)) = signed_sq-le (lo *ℤ pos (2 ^ up s * r.denominator)) (r.numerator *ℤ pos (2 ^ down s)) h in
    let a = signed_sq-scaled lo (2 ^ up s * r.denominator) in
    let b = signed_sq-scaled r.numerator (2 ^ down s) in
    let c : signed_sq lo *ℤ pos ((2 ^ up s * r.denominator) * (2 ^ up s * r.denominator)) ≡ signed_sq lo *ℤ pos (2 ^ (up s + up s) * (r.denominator * r.denominator)) = ring (signed_sq lo ∷ pos (2 ^ up s) ∷ pos r.denominator ∷ []) (v 0 ⊗ ((v 1 ⊗ v 2) ⊗ (v 1 ⊗ v 2))) (v 0 ⊗ ((v 1 ⊗ v 1) ⊗ (v 2 ⊗ v 2))) tt ∙ ap (λ x. signed_sq lo *ℤ pos (x * (r.denominator * r.denominator))) (sym (pow-add 2 (up s) (up s))) in
    let d : signed_sq r.numerator *ℤ pos (2 ^ down s * 2 ^ down s) ≡ signed_sq r.numerator *ℤ pos (2 ^ (down s + down s)) = ap (λ x. signed_sq r.numerator *ℤ pos x) (sym (pow-add 2 (down s) (down s))) in
    rescale_low (signed_sq lo) (signed_sq r.numerator) (r.denominator * r.denominator) (up s + up s) (down s + down s) (up (s +ℤ s)) (down (s +ℤ s)) (omega (arith, lin)) (rw (a ∙ c, b ∙ d) at g)

square_high : (hi s : ℤ) (r : Fraction) → AtLeast hi s r → AtLeast (signed_sq hi) (s +ℤ s) (fraction_signed_square r)
square_high hi s r h =
    let g : signed_sq (r.numerator *ℤ pos (2 ^ down s)) ≤ℤ signed_sq (hi *ℤ pos (2 ^ up s * r.denominator)) = signed_sq-le (r.numerator *ℤ pos (2 ^ down s)) (hi *ℤ pos (2 ^ up s * r.denominator)) h in
    let a = signed_sq-scaled hi (2 ^ up s * r.denominator) in
    let b = signed_sq-scaled r.numerator (2 ^ down s) in
    let c : signed_sq hi *ℤ pos ((2 ^ up s * r.denominator) * (2 ^ up s * r.denominator)) ≡ signed_sq hi *ℤ pos (2 ^ (up s + up s) * (r.denominator * r.denominator)) = ring (signed_sq hi ∷ pos (2 ^ up s) ∷ pos r.denominator ∷ []) (v 0 ⊗ ((v 1 ⊗ v 2) ⊗ (v 1 ⊗ v 2))) (v 0 ⊗ ((v 1 ⊗ v 1) ⊗ (v 2 ⊗ v 2))) tt ∙ ap (λ x. signed_sq hi *ℤ pos (x * (r.denominator * r.denominator))) (sym (pow-add 2 (up s) (up s))) in
    let d : signed_sq r.numerator *ℤ pos (2 ^ down s * 2 ^ down s) ≡ signed_sq r.numerator *ℤ pos (2 ^ (down s + down s)) = ap (λ x. signed_sq r.numerator *ℤ pos x) (sym (pow-add 2 (down s) (down s))) in
    rescale_high (signed_sq hi) (signed_sq r.numerator) (r.denominator * r.denominator) (up s + up s) (down s + down s) (up (s +ℤ s)) (down (s +ℤ s)) (omega (arith, lin)) (rw (a ∙ c, b ∙ d) at g)

pub Holds-signed_square : (t : Interval) (r : Fraction) → Holds t r → Holds (signed_square t) (fraction_signed_square r)
unfolding signed_square
Holds-signed_square t r h =
    Holds-narrow (signed_sq t.lo) (signed_sq t.hi) (t.s +ℤ t.s) (fraction_signed_square r) (square_low t.lo t.s r h.low) (square_high t.hi t.s r h.high)
