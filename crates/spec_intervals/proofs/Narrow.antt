-- Narrowing: the shift is the least that serves, and what the interval held it still holds.
use Rattle.std.proofs.Common.{◌≡◌, ℕ, zero, suc, ◌+◌, ◌*◌, ◌^◌, ◌<◌, ◌≤◌, arith, refl, sym, ap, ◌∙◌, [], ◌∷◌, ℤ, pos, negsuc, ◌+ℤ◌, ◌*ℤ◌, neg_ℤ, ◌≤ℤ◌, Bool, true, false, ◌&&◌, unsigned_abs, ◌⊎◌, inl, inr}
use Rattle.std.proofs.lemmas.Int.{ints}
use Rattle.std.proofs.lemmas.Nat.{pow-add, pow_pos}
use borrow.Author.Differences.{up, down}
use Rattle.spec_intervals.specs.Interval.{end_limit, IsIval, is_small, zero_end, fits_after, first_fit, narrow_shift, settled, narrow_by, narrow, zero_interval}
use Rattle.spec_numbers.specs.Numbers.{floor_div, ceil_div}
use Rattle.spec_intervals.specs.Fraction.{Fraction, Holds, AtMost, AtLeast}
use Rattle.spec_numbers.proofs.Ring.{v, ◌⊗◌, minus, ring}
use Rattle.spec_numbers.proofs.Order.{lin, le-mul, le-mul_cancel}
use Rattle.spec_numbers.proofs.Floor.{floor_div-small, ceil_div-small, floor_div-le, ceil_div-ge, ordered_quotients}
use Rattle.spec_numbers.proofs.Booleans.{both_true}
use Rattle.spec_numbers.proofs.Integers.{exchanged_scales}
use Rattle.std.proofs.lemmas.Bool.Decides.{nat_tests}
use Rattle.std.proofs.lemmas.Bool.{false≢true, cases_lt}

pub is_small-from : (z : ℤ) → unsigned_abs z ≤ end_limit → is_small z ≡ true
is_small-from z h = grind (arith, nat_tests)

pub is_small-both : (x y : ℤ) → (is_small x && is_small y) ≡ true → (unsigned_abs x ≤ end_limit) × (unsigned_abs y ≤ end_limit)
is_small-both x y t = grind (arith, nat_tests)

pub first_fit-is : (n k m : ℕ) (lo hi : ℤ) → k ≤ m → m ≤ k + n → fits_after m lo hi ≡ true → ((j : ℕ) → k ≤ j → j < m → fits_after j lo hi ≡ false) → first_fit n k lo hi ≡ m
unfolding first_fit
first_fit-is zero k m lo hi p q t f = omega arith
first_fit-is (suc n) k m lo hi p q t f =
    by (λ r s g. first_fit-is n (suc k) m lo hi r s t g) (fits_after k lo hi) refl (cases_lt k m)
  where
    by : ((suc k ≤ m) → (m ≤ suc k + n) → ((j : ℕ) → suc k ≤ j → j < m → fits_after j lo hi ≡ false) → first_fit n (suc k) lo hi ≡ m) → (b : Bool) → fits_after k lo hi ≡ b → (k < m) ⊎ (m ≤ k) → elim b [ true ↦ k | false ↦ first_fit n (suc k) lo hi ] ≡ m
    by ih true e (inl r) = let g : fits_after k lo hi ≡ false = f k (omega arith) r in cc
    by ih true e (inr r) = omega arith
    by ih false e (inl r) = ih (omega arith) (omega arith) (λ j a b. f j (omega arith) b)
    by ih false e (inr r) = let g : k ≡ m = omega arith in let h : fits_after k lo hi ≡ true = rw g t in cc

lt-pow : (n : ℕ) → n < 2 ^ n
lt-pow zero = omega arith
lt-pow (suc n) = let p : n < 2 ^ n = lt-pow n in omega arith

-- ends of at most 2^62 * 2^k fit after k halvings, and ends in order that fit after k are no greater
pub sizes-fit : (k : ℕ) (lo hi : ℤ) → unsigned_abs lo ≤ end_limit * 2 ^ k → unsigned_abs hi ≤ end_limit * 2 ^ k → fits_after k lo hi ≡ true
sizes-fit k lo hi p q =
    both_true _ _ (is_small-from (floor_div lo (2 ^ k)) (floor_div-small lo (2 ^ k) end_limit (pow_pos k) p)) (is_small-from (ceil_div hi (2 ^ k)) (ceil_div-small hi (2 ^ k) end_limit (pow_pos k) q))

within_neg : (w : ℤ) (m d : ℕ) → unsigned_abs w ≤ m → (neg_ℤ (pos m) *ℤ pos d) ≤ℤ (w *ℤ pos d)
within_neg w m d h = le-mul (neg_ℤ (pos m)) w (pos d) (omega (arith, lin)) (omega (arith, lin))

pub negated_product : (m d : ℕ) → neg_ℤ (pos m) *ℤ pos d ≡ neg_ℤ (pos (m * d))
negated_product m d = ring (pos m ∷ pos d ∷ []) (minus (v 0) ⊗ v 1) (minus (v 0 ⊗ v 1)) tt

bounded : (lo hi a b : ℤ) (m d : ℕ) → lo ≤ℤ hi → unsigned_abs a ≤ m → unsigned_abs b ≤ m → (a *ℤ pos d) ≤ℤ lo → hi ≤ℤ (b *ℤ pos d) → (unsigned_abs lo ≤ m * d) × (unsigned_abs hi ≤ m * d)
bounded lo hi a b m d o p q f g =
    let u : (neg_ℤ (pos m) *ℤ pos d) ≤ℤ (a *ℤ pos d) = within_neg a m d p in
    let w : (b *ℤ pos d) ≤ℤ pos (m * d) = le-mul b (pos m) (pos d) (omega (arith, lin)) (omega (arith, lin)) in
    let e : neg_ℤ (pos m) *ℤ pos d ≡ neg_ℤ (pos (m * d)) = negated_product m d in
    (omega (arith, lin), omega (arith, lin))

pub fits-sizes : (k : ℕ) (lo hi : ℤ) → lo ≤ℤ hi → fits_after k lo hi ≡ true → (unsigned_abs lo ≤ end_limit * 2 ^ k) × (unsigned_abs hi ≤ end_limit * 2 ^ k)
fits-sizes k lo hi o t =
    let s : (unsigned_abs (floor_div lo (2 ^ k)) ≤ end_limit) × (unsigned_abs (ceil_div hi (2 ^ k)) ≤ end_limit) = is_small-both (floor_div lo (2 ^ k)) (ceil_div hi (2 ^ k)) t in
    bounded lo hi (floor_div lo (2 ^ k)) (ceil_div hi (2 ^ k)) end_limit (2 ^ k) o s.0 s.1 (floor_div-le lo (2 ^ k) (pow_pos k)) (ceil_div-ge hi (2 ^ k) (pow_pos k))

sum-pow : (a n : ℕ) → a ≤ n → a ≤ end_limit * 2 ^ n
sum-pow a n h = let p : n < 2 ^ n = lt-pow n in omega arith

pub fits-at_sum : (lo hi : ℤ) → fits_after (unsigned_abs lo + unsigned_abs hi) lo hi ≡ true
fits-at_sum lo hi =
    sizes-fit (unsigned_abs lo + unsigned_abs hi) lo hi (sum-pow (unsigned_abs lo) (unsigned_abs lo + unsigned_abs hi) (omega arith)) (sum-pow (unsigned_abs hi) (unsigned_abs lo + unsigned_abs hi) (omega arith))

pub narrow_shift-is : (m : ℕ) (lo hi : ℤ) → fits_after m lo hi ≡ true → ((j : ℕ) → j < m → fits_after j lo hi ≡ false) → narrow_shift lo hi ≡ m
unfolding narrow_shift
narrow_shift-is m lo hi t f =
    first_fit-is (unsigned_abs lo + unsigned_abs hi) 0 m lo hi (omega arith) (bound (cases_lt (unsigned_abs lo + unsigned_abs hi) m)) t (λ j _ b. f j b)
  where
    bound : (unsigned_abs lo + unsigned_abs hi < m) ⊎ (m ≤ unsigned_abs lo + unsigned_abs hi) → m ≤ 0 + (unsigned_abs lo + unsigned_abs hi)
    bound (inl h) = let a : fits_after (unsigned_abs lo + unsigned_abs hi) lo hi ≡ false = f (unsigned_abs lo + unsigned_abs hi) h in let b : fits_after (unsigned_abs lo + unsigned_abs hi) lo hi ≡ true = fits-at_sum lo hi in absurd (false≢true (sym a ∙ b))
    bound (inr h) = omega arith

-- the shift found is enough, and no lesser one is
first_fit-fits : (n k : ℕ) (lo hi : ℤ) → fits_after (k + n) lo hi ≡ true → fits_after (first_fit n k lo hi) lo hi ≡ true
unfolding first_fit
first_fit-fits zero k lo hi t = let e : k ≡ k + 0 = omega arith in rw e t
first_fit-fits (suc n) k lo hi t =
    let q : suc k + n ≡ k + suc n = omega arith in
    by (first_fit-fits n (suc k) lo hi (rw q t)) (fits_after k lo hi) refl
  where
    by : fits_after (first_fit n (suc k) lo hi) lo hi ≡ true → (b : Bool) → fits_after k lo hi ≡ b → fits_after (elim b [ true ↦ k | false ↦ first_fit n (suc k) lo hi ]) lo hi ≡ true
    by ih true e = e
    by ih false e = ih

first_fit-least : (n k : ℕ) (lo hi : ℤ) (j : ℕ) → k ≤ j → j < first_fit n k lo hi → fits_after j lo hi ≡ false
unfolding first_fit
first_fit-least zero k lo hi j p q = absurd (omega arith)
first_fit-least (suc n) k lo hi j p q = by (first_fit-least n (suc k) lo hi j) (fits_after k lo hi) refl q
  where
    by : (suc k ≤ j → j < first_fit n (suc k) lo hi → fits_after j lo hi ≡ false) → (b : Bool) → fits_after k lo hi ≡ b → j < elim b [ true ↦ k | false ↦ first_fit n (suc k) lo hi ] → fits_after j lo hi ≡ false
    by ih true e r = absurd (omega arith)
    by ih false e r = at (cases_lt k j)
      where
        at : (k < j) ⊎ (j ≤ k) → fits_after j lo hi ≡ false
        at (inl s) = ih (omega arith) r
        at (inr s) = let q : j ≡ k = omega arith in rw q e

pub narrow_shift-fits : (lo hi : ℤ) → fits_after (narrow_shift lo hi) lo hi ≡ true
unfolding narrow_shift
narrow_shift-fits lo hi =
    first_fit-fits (unsigned_abs lo + unsigned_abs hi) 0 lo hi (let q : 0 + (unsigned_abs lo + unsigned_abs hi) ≡ unsigned_abs lo + unsigned_abs hi = omega arith in rw q (fits-at_sum lo hi))

pub narrow_shift-least : (lo hi : ℤ) (k : ℕ) → k < narrow_shift lo hi → fits_after k lo hi ≡ false
unfolding narrow_shift
narrow_shift-least lo hi k h =
    first_fit-least (unsigned_abs lo + unsigned_abs hi) 0 lo hi k (omega arith) h

pub narrow_shift-le : (m : ℕ) (lo hi : ℤ) → fits_after m lo hi ≡ true → narrow_shift lo hi ≤ m
narrow_shift-le m lo hi enough = by (cases_lt m (narrow_shift lo hi))
  where
    by : (m < narrow_shift lo hi) ⊎ (narrow_shift lo hi ≤ m) → narrow_shift lo hi ≤ m
    by (inl less) = absurd (false≢true (sym (narrow_shift-least lo hi m less) ∙ enough))
    by (inr at_most) = at_most

-- both ends are 0 where the tests say so
pub zero_ends : (lo hi : ℤ) → (zero_end lo && zero_end hi) ≡ true → (lo ≡ pos 0) × (hi ≡ pos 0)
zero_ends (pos zero) (pos zero) t = (refl, refl)
zero_ends (pos zero) (pos (suc n)) t = cc
zero_ends (pos zero) (negsuc n) t = cc
zero_ends (pos (suc n)) hi t = cc
zero_ends (negsuc n) hi t = cc

-- what is narrowed is an interval of the code
pub IsIval-settled : (lo hi s : ℤ) → IsIval (record { lo = lo; hi = hi; s = s }) → IsIval (settled lo hi s)
unfolding settled
IsIval-settled (pos zero) (pos zero) s h = record { ordered = omega (arith, ints); lo_small = omega arith; hi_small = omega arith }
IsIval-settled (pos zero) (pos (suc n)) s h = h
IsIval-settled (pos zero) (negsuc n) s h = h
IsIval-settled (pos (suc n)) hi s h = h
IsIval-settled (negsuc n) hi s h = h

pub IsIval-narrow : (lo hi s : ℤ) → lo ≤ℤ hi → IsIval (narrow lo hi s)
unfolding narrow narrow_by
IsIval-narrow lo hi s o =
    let k : ℕ = narrow_shift lo hi in
    let e : (unsigned_abs (floor_div lo (2 ^ narrow_shift lo hi)) ≤ end_limit) × (unsigned_abs (ceil_div hi (2 ^ narrow_shift lo hi)) ≤ end_limit) = is_small-both (floor_div lo (2 ^ narrow_shift lo hi)) (ceil_div hi (2 ^ narrow_shift lo hi)) (narrow_shift-fits lo hi) in
    IsIval-settled (floor_div lo (2 ^ narrow_shift lo hi)) (ceil_div hi (2 ^ narrow_shift lo hi)) (s +ℤ pos (narrow_shift lo hi)) (record { ordered = ordered_quotients lo hi (2 ^ narrow_shift lo hi) (pow_pos (narrow_shift lo hi)) o; lo_small = e.0; hi_small = e.1 })

-- 0 alone stays so, at the exponent 0
pub narrow_of_zero : (s : ℤ) → narrow (pos 0) (pos 0) s ≡ zero_interval
unfolding narrow narrow_by narrow_shift first_fit settled
narrow_of_zero s = refl

-- ---- what is held
-- a number times one power of 2, in both ways of writing an exponent
same_power : (z : ℤ) (den u d m e : ℕ) → u + e ≡ m + d → z *ℤ pos (2 ^ u * den) *ℤ pos (2 ^ e) ≡ z *ℤ pos (2 ^ m * den) *ℤ pos (2 ^ d)
same_power z den u d m e q =
    let w : 2 ^ u * 2 ^ e ≡ 2 ^ m * 2 ^ d = sym (pow-add 2 u e) ∙ (ap (λ x. 2 ^ x) q ∙ pow-add 2 m d) in
    let l : z *ℤ pos (2 ^ u * den) *ℤ pos (2 ^ e) ≡ z *ℤ pos den *ℤ pos (2 ^ u * 2 ^ e) = ring (z ∷ pos (2 ^ u) ∷ pos den ∷ pos (2 ^ e) ∷ []) (v 0 ⊗ (v 1 ⊗ v 2) ⊗ v 3) (v 0 ⊗ v 2 ⊗ (v 1 ⊗ v 3)) tt in
    let r : z *ℤ pos den *ℤ pos (2 ^ m * 2 ^ d) ≡ z *ℤ pos (2 ^ m * den) *ℤ pos (2 ^ d) = ring (z ∷ pos (2 ^ m) ∷ pos den ∷ pos (2 ^ d) ∷ []) (v 0 ⊗ v 2 ⊗ (v 1 ⊗ v 3)) (v 0 ⊗ (v 1 ⊗ v 2) ⊗ v 3) tt in
    l ∙ (ap (λ n. z *ℤ pos den *ℤ pos n) w ∙ r)

-- the comparison with the exponent u - d, and with the same exponent written m - e
pub rescale_low : (z n : ℤ) (den u d m e : ℕ) → u + e ≡ m + d → (z *ℤ pos (2 ^ u * den)) ≤ℤ (n *ℤ pos (2 ^ d)) → (z *ℤ pos (2 ^ m * den)) ≤ℤ (n *ℤ pos (2 ^ e))
rescale_low z n den u d m e q h =
    let g = le-mul (z *ℤ pos (2 ^ u * den)) (n *ℤ pos (2 ^ d)) (pos (2 ^ e)) (omega (arith, lin)) h in
    le-mul_cancel (z *ℤ pos (2 ^ m * den)) (n *ℤ pos (2 ^ e)) (2 ^ d) (pow_pos d) (omega (arith, lin, g, same_power z den u d m e q, exchanged_scales n (2 ^ d) (2 ^ e)))

pub rescale_high : (z n : ℤ) (den u d m e : ℕ) → u + e ≡ m + d → (n *ℤ pos (2 ^ d)) ≤ℤ (z *ℤ pos (2 ^ u * den)) → (n *ℤ pos (2 ^ e)) ≤ℤ (z *ℤ pos (2 ^ m * den))
rescale_high z n den u d m e q h =
    let g = le-mul (n *ℤ pos (2 ^ d)) (z *ℤ pos (2 ^ u * den)) (pos (2 ^ e)) (omega (arith, lin)) h in
    le-mul_cancel (n *ℤ pos (2 ^ e)) (z *ℤ pos (2 ^ m * den)) (2 ^ d) (pow_pos d) (omega (arith, lin, g, same_power z den u d m e q, exchanged_scales n (2 ^ d) (2 ^ e)))

-- a factor 2^k moves between the end and the exponent
pub shifted : (z : ℤ) (u k den : ℕ) → z *ℤ pos (2 ^ k) *ℤ pos (2 ^ u * den) ≡ z *ℤ pos (2 ^ (u + k) * den)
shifted z u k den =
    ring (z ∷ pos (2 ^ k) ∷ pos (2 ^ u) ∷ pos den ∷ []) (v 0 ⊗ v 1 ⊗ (v 2 ⊗ v 3)) (v 0 ⊗ ((v 2 ⊗ v 1) ⊗ v 3)) tt ∙ ap (λ x. z *ℤ pos (x * den)) (sym (pow-add 2 u k))

pub low-floor : (lo s : ℤ) (k : ℕ) (r : Fraction) → AtMost lo s r → AtMost (floor_div lo (2 ^ k)) (s +ℤ pos k) r
low-floor lo s k r h =
    let f : (floor_div lo (2 ^ k) *ℤ pos (2 ^ k)) ≤ℤ lo = floor_div-le lo (2 ^ k) (pow_pos k) in
    let g : (floor_div lo (2 ^ k) *ℤ pos (2 ^ k) *ℤ pos (2 ^ up s * r.denominator)) ≤ℤ (lo *ℤ pos (2 ^ up s * r.denominator)) = le-mul (floor_div lo (2 ^ k) *ℤ pos (2 ^ k)) lo (pos (2 ^ up s * r.denominator)) (omega (arith, lin)) f in
    let e : floor_div lo (2 ^ k) *ℤ pos (2 ^ k) *ℤ pos (2 ^ up s * r.denominator) ≡ floor_div lo (2 ^ k) *ℤ pos (2 ^ (up s + k) * r.denominator) = shifted (floor_div lo (2 ^ k)) (up s) k r.denominator in
    rescale_low (floor_div lo (2 ^ k)) r.numerator r.denominator (up s + k) (down s) (up (s +ℤ pos k)) (down (s +ℤ pos k)) (omega (arith, lin)) (omega (arith, lin))

pub high-ceil : (hi s : ℤ) (k : ℕ) (r : Fraction) → AtLeast hi s r → AtLeast (ceil_div hi (2 ^ k)) (s +ℤ pos k) r
high-ceil hi s k r h =
    let f : hi ≤ℤ (ceil_div hi (2 ^ k) *ℤ pos (2 ^ k)) = ceil_div-ge hi (2 ^ k) (pow_pos k) in
    let g : (hi *ℤ pos (2 ^ up s * r.denominator)) ≤ℤ (ceil_div hi (2 ^ k) *ℤ pos (2 ^ k) *ℤ pos (2 ^ up s * r.denominator)) = le-mul hi (ceil_div hi (2 ^ k) *ℤ pos (2 ^ k)) (pos (2 ^ up s * r.denominator)) (omega (arith, lin)) f in
    let e : ceil_div hi (2 ^ k) *ℤ pos (2 ^ k) *ℤ pos (2 ^ up s * r.denominator) ≡ ceil_div hi (2 ^ k) *ℤ pos (2 ^ (up s + k) * r.denominator) = shifted (ceil_div hi (2 ^ k)) (up s) k r.denominator in
    rescale_high (ceil_div hi (2 ^ k)) r.numerator r.denominator (up s + k) (down s) (up (s +ℤ pos k)) (down (s +ℤ pos k)) (omega (arith, lin)) (omega (arith, lin))

zero_low : (n : ℤ) (a b e : ℕ) → (pos 0 *ℤ pos a) ≤ℤ (n *ℤ pos (2 ^ e)) → (pos 0 *ℤ pos b) ≤ℤ (n *ℤ pos 1)
zero_low n a b e h =
    let p : pos 0 ≤ℤ n = le-mul_cancel (pos 0) n (2 ^ e) (pow_pos e) (omega (arith, ints)) in omega (arith, ints)

zero_high : (n : ℤ) (a b e : ℕ) → (n *ℤ pos (2 ^ e)) ≤ℤ (pos 0 *ℤ pos a) → (n *ℤ pos 1) ≤ℤ (pos 0 *ℤ pos b)
zero_high n a b e h =
    let p : n ≤ℤ pos 0 = le-mul_cancel n (pos 0) (2 ^ e) (pow_pos e) (omega (arith, ints)) in omega (arith, ints)

pub Holds-settled : (lo hi s : ℤ) (r : Fraction) → AtMost lo s r → AtLeast hi s r → Holds (settled lo hi s) r
unfolding settled
Holds-settled (pos zero) (pos zero) s r p q = record { low = zero_low r.numerator (2 ^ up s * r.denominator) (1 * r.denominator) (down s) p; high = zero_high r.numerator (2 ^ up s * r.denominator) (1 * r.denominator) (down s) q }
Holds-settled (pos zero) (pos (suc n)) s r p q = record { low = p; high = q }
Holds-settled (pos zero) (negsuc n) s r p q = record { low = p; high = q }
Holds-settled (pos (suc n)) hi s r p q = record { low = p; high = q }
Holds-settled (negsuc n) hi s r p q = record { low = p; high = q }

pub Holds-narrow_by : (k : ℕ) (lo hi s : ℤ) (r : Fraction) → AtMost lo s r → AtLeast hi s r → Holds (narrow_by k lo hi s) r
unfolding narrow_by
Holds-narrow_by k lo hi s r p q =
    Holds-settled (floor_div lo (2 ^ k)) (ceil_div hi (2 ^ k)) (s +ℤ pos k) r (low-floor lo s k r p) (high-ceil hi s k r q)

pub Holds-narrow : (lo hi s : ℤ) (r : Fraction) → AtMost lo s r → AtLeast hi s r → Holds (narrow lo hi s) r
unfolding narrow
Holds-narrow lo hi s r p q = Holds-narrow_by (narrow_shift lo hi) lo hi s r p q

pub narrow-is : (m : ℕ) (lo hi s : ℤ) → fits_after m lo hi ≡ true → ((j : ℕ) → j < m → fits_after j lo hi ≡ false) → narrow lo hi s ≡ narrow_by m lo hi s
unfolding narrow
narrow-is m lo hi s t f = ap (λ k. narrow_by k lo hi s) (narrow_shift-is m lo hi t f)
