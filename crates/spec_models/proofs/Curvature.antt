-- Derivatives of polynomials, and how far a polynomial is from its tangent.
use Rattle.std.proofs.Common.{◌≡◌, ℕ, zero, suc, ◌+◌, ◌-◌, ◌*◌, ◌^◌, ◌<◌, ◌≤◌, arith, refl, sym, ap, subst, ◌∙◌, List, [], ◌∷◌, length, take, ℤ, pos, ◌+ℤ◌, ◌-ℤ◌, ◌*ℤ◌, neg_ℤ, ◌≤ℤ◌, unsigned_abs}
use Rattle.std.proofs.lemmas.Int.{ints}
use Rattle.std.proofs.lemmas.Nat.{pow_pos}
use borrow.Author.Differences.{up, down}
use Rattle.spec_numbers.specs.Numbers.{power}
use Rattle.spec_numbers.proofs.Ring.{v, k as lit, ◌⊕◌, ◌⊖◌, ◌⊗◌, minus, ring}
use Rattle.spec_numbers.proofs.Order.{lin, le-mul, natural}
use Rattle.spec_numbers.proofs.Whole.{nonneg-mul}
use Rattle.spec_numbers.proofs.Naturals.{positive_product, power-add}
use Rattle.spec_intervals.specs.Fraction.{Fraction, fraction, fraction_add, fraction_mul}
use Rattle.spec_chebyshev.specs.Differences.{IsArgument, Within}
use Rattle.spec_chebyshev.proofs.Sizes.{Within-mul, Within-add}
use Rattle.spec_models.specs.Models.{Model, model, at, IsNear, value, widened, slope, weighted_sizes, bent_sizes, curvature, by_place, derivative, coefficient, constant}
use Rattle.spec_models.proofs.Lists.{at-none, at-more, at-many}
use Rattle.spec_models.proofs.Bounds.{Within-more, Within-is, Within-scale, Within-cancel, Within-size, Within-times, Within-zero, Within-moved, power0}
use Rattle.spec_models.proofs.Nearness.{Apart, near-at, at-near, power-one, own-power, Within-cancel_above}
use Rattle.spec_models.proofs.Operations.{Apart-moved}
use Rattle.spec_models.proofs.Between.{near-same}
use Rattle.spec_models.proofs.Values.{own-argument, constant-bounds, value-denominator}

-- ---- derivatives
one_more : (n : ℕ) → pos (suc n) ≡ pos 1 +ℤ pos n
one_more n = let e : suc n ≡ 1 + n = omega arith in ap pos e

at-by_place : (p q : ℤ) (d n : ℕ) (xs : List ℤ) → at p q d (by_place (suc n) xs) ≡ at p q d xs +ℤ at p q d (by_place n xs)
at-by_place p q zero n [] = refl
at-by_place p q (suc d) n [] = refl
at-by_place p q zero n (x ∷ xs) = ap (λ t. t *ℤ x) (one_more n) ∙ ring (pos n ∷ x ∷ []) ((lit (pos 1) ⊕ v 0) ⊗ v 1) (v 1 ⊕ v 0 ⊗ v 1) tt
at-by_place p q (suc d) n (x ∷ xs) =
    ap (λ t. (pos (suc n) *ℤ x) *ℤ power q (suc d) +ℤ p *ℤ t) (at-by_place p q d (suc n) xs) ∙ (ap (λ t. (t *ℤ x) *ℤ power q (suc d) +ℤ p *ℤ (at p q d xs +ℤ at p q d (by_place (suc n) xs))) (one_more n) ∙ ring (p ∷ x ∷ pos n ∷ power q (suc d) ∷ at p q d xs ∷ at p q d (by_place (suc n) xs) ∷ []) (((lit (pos 1) ⊕ v 2) ⊗ v 1) ⊗ v 3 ⊕ v 0 ⊗ (v 4 ⊕ v 5)) ((v 1 ⊗ v 3 ⊕ v 0 ⊗ v 4) ⊕ ((v 2 ⊗ v 1) ⊗ v 3 ⊕ v 0 ⊗ v 5)) tt)

at-in_place : (p q : ℤ) (d : ℕ) (xs : List ℤ) → at p q (suc d) (by_place 0 xs) ≡ p *ℤ at p q d (derivative xs)
at-in_place p q zero [] = ring (p ∷ []) (lit (pos 0)) (v 0 ⊗ lit (pos 0)) tt
at-in_place p q (suc d) [] = ring (p ∷ []) (lit (pos 0)) (v 0 ⊗ lit (pos 0)) tt
at-in_place p q d (x ∷ xs) = ring (p ∷ x ∷ power q (suc d) ∷ at p q d (by_place 1 xs) ∷ []) ((lit (pos 0) ⊗ v 1) ⊗ v 2 ⊕ v 0 ⊗ v 3) (v 0 ⊗ v 3) tt

-- the derivative of x + u S(u) is S(u) + u S'(u)
pub at-derivative : (p q : ℤ) (d : ℕ) (x : ℤ) (xs : List ℤ) → length xs ≤ d → at p q (suc d) (derivative (x ∷ xs)) ≡ q *ℤ at p q d xs +ℤ p *ℤ at p q d (derivative xs)
at-derivative p q d x xs h =
    at-by_place p q (suc d) 0 xs ∙ (ap (λ t. t +ℤ at p q (suc d) (by_place 0 xs)) (at-more p q d xs h) ∙ ap (λ t. q *ℤ at p q d xs +ℤ t) (at-in_place p q d xs))

length-by_place : (n : ℕ) (xs : List ℤ) → length (by_place n xs) ≡ length xs
length-by_place n [] = refl
length-by_place n (x ∷ xs) = ap suc (length-by_place (suc n) xs)

pub length-derivative : (xs : List ℤ) → length (derivative xs) ≡ length xs - 1
length-derivative [] = refl
length-derivative (x ∷ xs) = let l : length (by_place 1 xs) ≡ length xs = length-by_place 1 xs in omega arith

coefficient-by_place : (n : ℕ) (xs : List ℤ) (k : ℕ) → coefficient (by_place n xs) k ≡ pos (n + k) *ℤ coefficient xs k
coefficient-by_place n [] k = ring (pos (n + k) ∷ []) (lit (pos 0)) (v 0 ⊗ lit (pos 0)) tt
coefficient-by_place n (x ∷ xs) zero = let z : n ≡ n + 0 = omega arith in ap (λ i. pos i *ℤ x) z
coefficient-by_place n (x ∷ xs) (suc k) =
    let z : suc n + k ≡ n + suc k = omega arith in coefficient-by_place (suc n) xs k ∙ ap (λ i. pos i *ℤ coefficient xs k) z

pub coefficient-derivative : (xs : List ℤ) (k : ℕ) → coefficient (derivative xs) k ≡ pos (suc k) *ℤ coefficient xs (suc k)
coefficient-derivative [] k = ring (pos (suc k) ∷ []) (lit (pos 0)) (v 0 ⊗ lit (pos 0)) tt
coefficient-derivative (x ∷ xs) k =
    let z : 1 + k ≡ suc k = omega arith in coefficient-by_place 1 xs k ∙ ap (λ i. pos i *ℤ coefficient xs k) z

-- ---- sums of k (k - 1) |a_k|
bent-suc : (n : ℕ) (xs : List ℤ) → bent_sizes (suc n) xs ≡ bent_sizes n xs + 2 * weighted_sizes (suc n) xs
bent-suc n [] = refl
bent-suc n (x ∷ xs) =
    let ih : bent_sizes (suc (suc n)) xs ≡ bent_sizes (suc n) xs + 2 * weighted_sizes (suc (suc n)) xs = bent-suc (suc n) xs in
    let f : suc (suc n) ≡ 2 + n = omega arith in
    let g : suc n ≡ 1 + n = omega arith in
    let l : suc (suc n) * suc n * unsigned_abs x ≡ (2 + n) * (1 + n) * unsigned_abs x = λ i. f i * g i * unsigned_abs x in
    let r : suc n * n * unsigned_abs x + 2 * (suc n * unsigned_abs x) ≡ (1 + n) * n * unsigned_abs x + 2 * ((1 + n) * unsigned_abs x) = λ i. g i * n * unsigned_abs x + 2 * (g i * unsigned_abs x) in
    let e : suc (suc n) * suc n * unsigned_abs x ≡ suc n * n * unsigned_abs x + 2 * (suc n * unsigned_abs x) = l ∙ (ap unsigned_abs (ring (pos n ∷ pos (unsigned_abs x) ∷ []) ((lit (pos 2) ⊕ v 0) ⊗ (lit (pos 1) ⊕ v 0) ⊗ v 1) ((lit (pos 1) ⊕ v 0) ⊗ v 0 ⊗ v 1 ⊕ lit (pos 2) ⊗ ((lit (pos 1) ⊕ v 0) ⊗ v 1)) tt) ∙ sym r) in
    added-up (suc (suc n) * suc n * unsigned_abs x) (suc n * n * unsigned_abs x) (suc n * unsigned_abs x) (bent_sizes (suc (suc n)) xs) (bent_sizes (suc n) xs) (weighted_sizes (suc (suc n)) xs) e ih
  where
    added-up : (a b c d e f : ℕ) → a ≡ b + 2 * c → d ≡ e + 2 * f → a + d ≡ b + e + 2 * (c + f)
    added-up a b c d e f g h = omega arith

pub curvature-next : (x : ℤ) (xs : List ℤ) → curvature (x ∷ xs) ≡ curvature xs + 2 * slope xs
curvature-next x [] = refl
curvature-next x (y ∷ ys) =
    let b : bent_sizes 1 ys ≡ bent_sizes 0 ys + 2 * weighted_sizes 1 ys = bent-suc 0 ys in omega (arith, b)

bent-take : (n : ℕ) (xs : List ℤ) (i : ℕ) → bent_sizes n (take (suc i) xs) ≡ bent_sizes n (take i xs) + suc (n + i) * (n + i) * unsigned_abs (coefficient xs i)
bent-take n [] zero = omega arith
bent-take n [] (suc i) = omega arith
bent-take n (x ∷ xs) zero =
    let e : n ≡ n + 0 = omega arith in
    let f : suc n * n * unsigned_abs x ≡ suc (n + 0) * (n + 0) * unsigned_abs x = ap (λ t. suc t * t * unsigned_abs x) e in omega (arith, f)
bent-take n (x ∷ xs) (suc i) =
    let ih : bent_sizes (suc n) (take (suc i) xs) ≡ bent_sizes (suc n) (take i xs) + suc (suc n + i) * (suc n + i) * unsigned_abs (coefficient xs i) = bent-take (suc n) xs i in
    let e : suc n + i ≡ n + suc i = omega arith in
    let f : suc (suc n + i) * (suc n + i) * unsigned_abs (coefficient xs i) ≡ suc (n + suc i) * (n + suc i) * unsigned_abs (coefficient xs i) = ap (λ t. suc t * t * unsigned_abs (coefficient xs i)) e in omega (arith, ih, f)

pub curvature-take : (xs : List ℤ) (i : ℕ) → curvature (take (suc i) xs) ≡ curvature (take i xs) + i * (i - 1) * unsigned_abs (coefficient xs i)
curvature-take [] zero = refl
curvature-take [] (suc i) = omega arith
curvature-take (x ∷ xs) zero = omega arith
curvature-take (x ∷ xs) (suc i) =
    let e : i ≡ suc i - 1 = omega arith in
    let z : 0 + i ≡ i = omega arith in
    bent-take 0 xs i ∙ (ap (λ t. bent_sizes 0 (take i xs) + suc t * t * unsigned_abs (coefficient xs i)) z ∙ ap (λ t. bent_sizes 0 (take i xs) + suc i * t * unsigned_abs (coefficient xs i)) e)

-- ---- a polynomial is at most half of the curvature times the square of the distance from its tangent
pub Within-tangent : (p o q : ℤ) (d : ℕ) (xs : List ℤ) → length xs ≤ d → IsArgument p q → IsArgument o q → Within (pos 2 *ℤ ((at p q d xs -ℤ at o q d xs) *ℤ (q *ℤ q) -ℤ (p -ℤ o) *ℤ q *ℤ at o q d (derivative xs))) (pos (unsigned_abs (p -ℤ o) * unsigned_abs (p -ℤ o) * curvature xs) *ℤ power q d)
Within-tangent p o q d [] h g k =
    let b0 : pos 0 ≤ℤ (pos (unsigned_abs (p -ℤ o) * unsigned_abs (p -ℤ o) * 0) *ℤ power q d) = nonneg-mul (pos (unsigned_abs (p -ℤ o) * unsigned_abs (p -ℤ o) * 0)) (power q d) (natural (unsigned_abs (p -ℤ o) * unsigned_abs (p -ℤ o) * 0)) (power0 p q d g) in
    let z : pos 0 ≡ pos 2 *ℤ ((at p q d [] -ℤ at o q d []) *ℤ (q *ℤ q) -ℤ (p -ℤ o) *ℤ q *ℤ at o q d []) = ring (p ∷ o ∷ q ∷ []) (lit (pos 0)) (lit (pos 2) ⊗ ((lit (pos 0) ⊖ lit (pos 0)) ⊗ (v 2 ⊗ v 2) ⊖ (v 0 ⊖ v 1) ⊗ v 2 ⊗ lit (pos 0))) tt ∙ sym (λ i. pos 2 *ℤ ((at-none p q d i -ℤ at-none o q d i) *ℤ (q *ℤ q) -ℤ (p -ℤ o) *ℤ q *ℤ at-none o q d i)) in
    Within-is (pos 0) (pos 2 *ℤ ((at p q d [] -ℤ at o q d []) *ℤ (q *ℤ q) -ℤ (p -ℤ o) *ℤ q *ℤ at o q d [])) (pos (unsigned_abs (p -ℤ o) * unsigned_abs (p -ℤ o) * 0) *ℤ power q d) (pos (unsigned_abs (p -ℤ o) * unsigned_abs (p -ℤ o) * 0) *ℤ power q d) z refl (Within-zero (pos (unsigned_abs (p -ℤ o) * unsigned_abs (p -ℤ o) * 0) *ℤ power q d) b0)
Within-tangent p o q zero (x ∷ xs) h g k = absurd (omega arith)
Within-tangent p o q (suc d) (x ∷ xs) h g k =
    let p0 = g.positive in
    let n0 : pos 0 ≤ℤ power q d = power0 p q d g in
    let q0 : pos 0 ≤ℤ q = omega (arith, lin) in
    let D0 : pos 0 ≤ℤ pos (unsigned_abs (p -ℤ o)) = natural (unsigned_abs (p -ℤ o)) in
    let ih : Within (pos 2 *ℤ ((at p q d xs -ℤ at o q d xs) *ℤ (q *ℤ q) -ℤ (p -ℤ o) *ℤ q *ℤ at o q d (derivative xs))) (pos (unsigned_abs (p -ℤ o) * unsigned_abs (p -ℤ o) * curvature xs) *ℤ power q d) = Within-tangent p o q d xs (omega arith) g k in
    let a : Within (o *ℤ (pos 2 *ℤ ((at p q d xs -ℤ at o q d xs) *ℤ (q *ℤ q) -ℤ (p -ℤ o) *ℤ q *ℤ at o q d (derivative xs)))) (pos (unsigned_abs (p -ℤ o) * unsigned_abs (p -ℤ o) * curvature xs) *ℤ (q *ℤ power q d)) = Within-times o q (power q d) k n0 (pos 2 *ℤ ((at p q d xs -ℤ at o q d xs) *ℤ (q *ℤ q) -ℤ (p -ℤ o) *ℤ q *ℤ at o q d (derivative xs))) (unsigned_abs (p -ℤ o) * unsigned_abs (p -ℤ o) * curvature xs) ih in
    let b : Within ((p -ℤ o) *ℤ ((at p q d xs -ℤ at o q d xs) *ℤ q)) (pos (unsigned_abs (p -ℤ o)) *ℤ (pos (unsigned_abs (p -ℤ o) * slope xs) *ℤ power q d)) = Within-mul (p -ℤ o) ((at p q d xs -ℤ at o q d xs) *ℤ q) (pos (unsigned_abs (p -ℤ o))) (pos (unsigned_abs (p -ℤ o) * slope xs) *ℤ power q d) D0 (nonneg-mul (pos (unsigned_abs (p -ℤ o) * slope xs)) (power q d) (natural (unsigned_abs (p -ℤ o) * slope xs)) n0) (Within-size (p -ℤ o)) (Within-moved p o q d xs g k) in
    let c = Within-scale _ _ (pos 2 *ℤ q) (nonneg-mul (pos 2) q (natural 2) q0) b in
    let s = Within-add _ _ _ _ a c in
    let e : at o q (suc d) (derivative (x ∷ xs)) ≡ q *ℤ at o q d xs +ℤ o *ℤ at o q d (derivative xs) = at-derivative o q d x xs (omega arith) in
    let f : o *ℤ (pos 2 *ℤ ((at p q d xs -ℤ at o q d xs) *ℤ (q *ℤ q) -ℤ (p -ℤ o) *ℤ q *ℤ at o q d (derivative xs))) +ℤ (p -ℤ o) *ℤ ((at p q d xs -ℤ at o q d xs) *ℤ q) *ℤ (pos 2 *ℤ q) ≡ pos 2 *ℤ ((at p q (suc d) (x ∷ xs) -ℤ at o q (suc d) (x ∷ xs)) *ℤ (q *ℤ q) -ℤ (p -ℤ o) *ℤ q *ℤ (q *ℤ at o q d xs +ℤ o *ℤ at o q d (derivative xs))) = ring (p ∷ o ∷ q ∷ x ∷ (q *ℤ power q d) ∷ at p q d xs ∷ at o q d xs ∷ at o q d (derivative xs) ∷ []) (v 1 ⊗ (lit (pos 2) ⊗ ((v 5 ⊖ v 6) ⊗ (v 2 ⊗ v 2) ⊖ (v 0 ⊖ v 1) ⊗ v 2 ⊗ v 7)) ⊕ (v 0 ⊖ v 1) ⊗ ((v 5 ⊖ v 6) ⊗ v 2) ⊗ (lit (pos 2) ⊗ v 2)) (lit (pos 2) ⊗ (((v 3 ⊗ v 4 ⊕ v 0 ⊗ v 5) ⊖ (v 3 ⊗ v 4 ⊕ v 1 ⊗ v 6)) ⊗ (v 2 ⊗ v 2) ⊖ (v 0 ⊖ v 1) ⊗ v 2 ⊗ (v 2 ⊗ v 6 ⊕ v 1 ⊗ v 7))) tt in
    let i : pos (unsigned_abs (p -ℤ o) * unsigned_abs (p -ℤ o) * curvature xs) *ℤ (q *ℤ power q d) +ℤ pos (unsigned_abs (p -ℤ o)) *ℤ (pos (unsigned_abs (p -ℤ o) * slope xs) *ℤ power q d) *ℤ (pos 2 *ℤ q) ≡ pos (unsigned_abs (p -ℤ o) * unsigned_abs (p -ℤ o) * (curvature xs + 2 * slope xs)) *ℤ (q *ℤ power q d) = ring (pos (unsigned_abs (p -ℤ o)) ∷ pos (curvature xs) ∷ pos (slope xs) ∷ q ∷ power q d ∷ []) ((v 0 ⊗ v 0 ⊗ v 1) ⊗ (v 3 ⊗ v 4) ⊕ v 0 ⊗ ((v 0 ⊗ v 2) ⊗ v 4) ⊗ (lit (pos 2) ⊗ v 3)) ((v 0 ⊗ v 0 ⊗ (v 1 ⊕ lit (pos 2) ⊗ v 2)) ⊗ (v 3 ⊗ v 4)) tt in
    Within-is _ _ _ _ (f ∙ ap (λ t. pos 2 *ℤ ((at p q (suc d) (x ∷ xs) -ℤ at o q (suc d) (x ∷ xs)) *ℤ (q *ℤ q) -ℤ (p -ℤ o) *ℤ q *ℤ t)) (sym e)) (i ∙ ap (λ n. pos (unsigned_abs (p -ℤ o) * unsigned_abs (p -ℤ o) * n) *ℤ (q *ℤ power q d)) (sym (curvature-next x xs))) s

-- ---- near the same model at another argument, by the derivative there
-- a value of at most S units, at any degree
value-within : (o q : ℤ) → IsArgument o q → (xs : List ℤ) (S : ℕ) (e : ℕ) (s : ℤ) (d : ℕ) → length xs ≤ d → IsNear (constant (pos 0) S s) o q (value (model xs e s) o q) → Within (at o q d xs) (pos S *ℤ power q d)
value-within o q g xs S e s d h x =
    let b = constant-bounds o q g (pos 0) S s (value (model xs e s) o q) x in
    let l = b.0 in
    let u = b.1 in
    let w : 0 < 2 ^ up s * 2 ^ down s = positive_product (2 ^ up s) (2 ^ down s) (pow_pos (up s)) (pow_pos (down s)) in
    let own : pos (unsigned_abs (power q (length xs))) ≡ power q (length xs) = own-power q (length xs) g.positive in
    let i : ((pos 0 -ℤ pos S) *ℤ pos (2 ^ up s)) *ℤ (pos (unsigned_abs (power q (length xs))) *ℤ pos (2 ^ down s)) ≡ neg_ℤ ((pos S *ℤ pos (unsigned_abs (power q (length xs)))) *ℤ pos (2 ^ up s * 2 ^ down s)) = ring (pos S ∷ pos (2 ^ up s) ∷ pos (2 ^ down s) ∷ pos (unsigned_abs (power q (length xs))) ∷ []) (((lit (pos 0) ⊖ v 0) ⊗ v 1) ⊗ (v 3 ⊗ v 2)) (minus ((v 0 ⊗ v 3) ⊗ (v 1 ⊗ v 2))) tt in
    let j : ((pos 0 +ℤ pos S) *ℤ pos (2 ^ up s)) *ℤ (pos (unsigned_abs (power q (length xs))) *ℤ pos (2 ^ down s)) ≡ (pos S *ℤ pos (unsigned_abs (power q (length xs)))) *ℤ pos (2 ^ up s * 2 ^ down s) = ring (pos S ∷ pos (2 ^ up s) ∷ pos (2 ^ down s) ∷ pos (unsigned_abs (power q (length xs))) ∷ []) (((lit (pos 0) ⊕ v 0) ⊗ v 1) ⊗ (v 3 ⊗ v 2)) ((v 0 ⊗ v 3) ⊗ (v 1 ⊗ v 2)) tt in
    let m : ((at o q (length xs) xs +ℤ pos 0 *ℤ power q (length xs)) *ℤ pos (2 ^ up s)) *ℤ pos (2 ^ down s) ≡ at o q (length xs) xs *ℤ pos (2 ^ up s * 2 ^ down s) = ring (at o q (length xs) xs ∷ power q (length xs) ∷ pos (2 ^ up s) ∷ pos (2 ^ down s) ∷ []) (((v 0 ⊕ lit (pos 0) ⊗ v 1) ⊗ v 2) ⊗ v 3) (v 0 ⊗ (v 2 ⊗ v 3)) tt in
    let y : Within (at o q (length xs) xs *ℤ pos (2 ^ up s * 2 ^ down s)) ((pos S *ℤ pos (unsigned_abs (power q (length xs)))) *ℤ pos (2 ^ up s * 2 ^ down s)) = record { low = omega (arith, lin); high = omega (arith, lin) } in
    let z : Within (at o q (length xs) xs) (pos S *ℤ pos (unsigned_abs (power q (length xs)))) = Within-cancel (at o q (length xs) xs) (pos S *ℤ pos (unsigned_abs (power q (length xs)))) (2 ^ up s * 2 ^ down s) w y in
    let o1 : pos 1 ≤ℤ power q (d - length xs) = power-one q (d - length xs) g.positive in
    let t : (d - length xs) + length xs ≡ d = omega arith in
    let c = Within-scale (at o q (length xs) xs) (pos S *ℤ pos (unsigned_abs (power q (length xs)))) (power q (d - length xs)) (omega (arith, lin)) z in
    let a1 : at o q (length xs) xs *ℤ power q (d - length xs) ≡ at o q d xs = ring (at o q (length xs) xs ∷ power q (d - length xs) ∷ []) (v 0 ⊗ v 1) (v 1 ⊗ v 0) tt ∙ (sym (at-many o q (d - length xs) (length xs) xs (omega arith)) ∙ ap (λ n. at o q n xs) t) in
    let b1 : (pos S *ℤ pos (unsigned_abs (power q (length xs)))) *ℤ power q (d - length xs) ≡ pos S *ℤ power q d = ap (λ n. (pos S *ℤ n) *ℤ power q (d - length xs)) own ∙ (ring (pos S ∷ power q (length xs) ∷ power q (d - length xs) ∷ []) ((v 0 ⊗ v 1) ⊗ v 2) (v 0 ⊗ (v 2 ⊗ v 1)) tt ∙ (ap (λ n. pos S *ℤ n) (sym (power-add q (d - length xs) (length xs))) ∙ ap (λ n. pos S *ℤ power q n) t)) in
    Within-is _ _ _ _ a1 b1 c

pub near-curved : (p q : ℤ) → IsArgument p q → (m : Model) (o : ℤ) (S e : ℕ) (r : Fraction) → IsArgument o q → IsNear (constant (pos 0) S m.exponent) o q (value (model (derivative m.coefficients) 0 m.exponent) o q) → (pos (2 * unsigned_abs (p -ℤ o) * S) *ℤ q +ℤ pos (unsigned_abs (p -ℤ o) * unsigned_abs (p -ℤ o) * curvature m.coefficients)) ≤ℤ (pos (2 * e) *ℤ q *ℤ q) → IsNear m p q r → IsNear (widened e m) o q r
near-curved p q g m o S e r k der h x =
    let y = near-at m p q r g (length m.coefficients) (up m.exponent) (down m.exponent) (omega arith) refl x in
    let p0 = g.positive in
    let q0 : pos 0 ≤ℤ q = omega (arith, lin) in
    let Q0 : pos 0 ≤ℤ power q (length m.coefficients) = power0 p q (length m.coefficients) g in
    let ld : length (derivative m.coefficients) ≡ length m.coefficients - 1 = length-derivative m.coefficients in
    let D : Within (at o q (length m.coefficients) (derivative m.coefficients)) (pos S *ℤ power q (length m.coefficients)) = value-within o q k (derivative m.coefficients) S 0 m.exponent (length m.coefficients) (omega arith) der in
    let t = Within-tangent p o q (length m.coefficients) m.coefficients (omega arith) g k in
    let a = Within-mul (p -ℤ o) (at o q (length m.coefficients) (derivative m.coefficients)) (pos (unsigned_abs (p -ℤ o))) (pos S *ℤ power q (length m.coefficients)) (natural (unsigned_abs (p -ℤ o))) (nonneg-mul (pos S) (power q (length m.coefficients)) (natural S) Q0) (Within-size (p -ℤ o)) D in
    let b = Within-scale _ _ (pos 2 *ℤ q) (nonneg-mul (pos 2) q (natural 2) q0) a in
    let c = Within-add _ _ _ _ t b in
    let l = le-mul _ _ (power q (length m.coefficients)) Q0 h in
    let s : Within (pos 2 *ℤ ((at p q (length m.coefficients) m.coefficients -ℤ at o q (length m.coefficients) m.coefficients) *ℤ (q *ℤ q))) ((pos (2 * unsigned_abs (p -ℤ o) * S) *ℤ q +ℤ pos (unsigned_abs (p -ℤ o) * unsigned_abs (p -ℤ o) * curvature m.coefficients)) *ℤ power q (length m.coefficients)) = Within-is _ _ _ _ (ring (at p q (length m.coefficients) m.coefficients ∷ at o q (length m.coefficients) m.coefficients ∷ q ∷ p ∷ o ∷ at o q (length m.coefficients) (derivative m.coefficients) ∷ []) (lit (pos 2) ⊗ ((v 0 ⊖ v 1) ⊗ (v 2 ⊗ v 2) ⊖ (v 3 ⊖ v 4) ⊗ v 2 ⊗ v 5) ⊕ (v 3 ⊖ v 4) ⊗ v 5 ⊗ (lit (pos 2) ⊗ v 2)) (lit (pos 2) ⊗ ((v 0 ⊖ v 1) ⊗ (v 2 ⊗ v 2))) tt) (ring (pos (unsigned_abs (p -ℤ o)) ∷ pos S ∷ pos (curvature m.coefficients) ∷ q ∷ power q (length m.coefficients) ∷ []) ((v 0 ⊗ v 0 ⊗ v 2) ⊗ v 4 ⊕ v 0 ⊗ (v 1 ⊗ v 4) ⊗ (lit (pos 2) ⊗ v 3)) (((lit (pos 2) ⊗ v 0 ⊗ v 1) ⊗ v 3 ⊕ (v 0 ⊗ v 0 ⊗ v 2)) ⊗ v 4) tt) c in
    let s' = Within-more _ _ _ l s in
    let f : Within ((at p q (length m.coefficients) m.coefficients -ℤ at o q (length m.coefficients) m.coefficients) *ℤ q *ℤ q *ℤ pos 2) (pos e *ℤ power q (length m.coefficients) *ℤ q *ℤ q *ℤ pos 2) = Within-is _ _ _ _ (ring (at p q (length m.coefficients) m.coefficients ∷ at o q (length m.coefficients) m.coefficients ∷ q ∷ []) (lit (pos 2) ⊗ ((v 0 ⊖ v 1) ⊗ (v 2 ⊗ v 2))) ((v 0 ⊖ v 1) ⊗ v 2 ⊗ v 2 ⊗ lit (pos 2)) tt) (ring (pos e ∷ q ∷ power q (length m.coefficients) ∷ []) ((lit (pos 2) ⊗ v 0) ⊗ v 1 ⊗ v 1 ⊗ v 2) (v 0 ⊗ v 2 ⊗ v 1 ⊗ v 1 ⊗ lit (pos 2)) tt) s' in
    let w : Within (at p q (length m.coefficients) m.coefficients -ℤ at o q (length m.coefficients) m.coefficients) (pos e *ℤ power q (length m.coefficients)) = Within-cancel_above _ _ q p0 (Within-cancel_above _ _ q p0 (Within-cancel _ _ 2 (omega arith) f)) in
    let w' : Within (at p q (length m.coefficients) m.coefficients -ℤ pos 1 *ℤ at o q (length m.coefficients) m.coefficients) (pos e *ℤ pos 1 *ℤ power q (length m.coefficients)) = Within-is _ _ _ _ (ring (at p q (length m.coefficients) m.coefficients ∷ at o q (length m.coefficients) m.coefficients ∷ []) (v 0 ⊖ v 1) (v 0 ⊖ lit (pos 1) ⊗ v 1) tt) (ring (pos e ∷ power q (length m.coefficients) ∷ []) (v 0 ⊗ v 1) (v 0 ⊗ lit (pos 1) ⊗ v 1) tt) w in
    let i : pos m.error ≤ℤ (pos m.error *ℤ pos 1) = omega (arith, ints) in
    let j = Apart-moved (at p q (length m.coefficients) m.coefficients) (power q (length m.coefficients)) (pos m.error) (pos (2 ^ up m.exponent)) (pos (2 ^ down m.exponent)) r.numerator (pos r.denominator) Q0 (natural (2 ^ up m.exponent)) (natural r.denominator) (at o q (length m.coefficients) m.coefficients) (pos e) (pos m.error) (pos 1) (natural 1) i w' y in
    let one : 2 ^ up m.exponent * 1 ≡ 2 ^ up m.exponent = omega arith in
    at-near (widened e m) o q r k (length m.coefficients) (up m.exponent) (down m.exponent) (omega arith) refl x.is_fraction (subst (λ t. Apart (at o q (length m.coefficients) m.coefficients) (power q (length m.coefficients)) (pos (m.error + e)) (pos t) (pos (2 ^ down m.exponent)) r.numerator (pos r.denominator)) one j)

-- ---- the derivative's value, beside the polynomial's own
steep-step : (p q A B D Q R X c U : ℤ) (i j l w n : ℕ) → pos i ≡ q → pos j ≡ c *ℤ R → pos l ≡ R → pos n ≡ c *ℤ R → q *ℤ D ≡ q *ℤ B +ℤ p *ℤ (c *ℤ A) → (((B +ℤ pos 0 *ℤ Q) *ℤ U) *ℤ pos (i * (l * w)) +ℤ (p *ℤ ((A +ℤ pos 0 *ℤ R) *ℤ U)) *ℤ pos (j * w)) *ℤ pos (n * w) ≡ ((D +ℤ pos 0 *ℤ X) *ℤ U) *ℤ pos ((j * w) * (i * (l * w)))
steep-step p q A B D Q R X c U i j l w n ei ej el en e =
    let a : (((B +ℤ pos 0 *ℤ Q) *ℤ U) *ℤ (pos i *ℤ (pos l *ℤ pos w)) +ℤ (p *ℤ ((A +ℤ pos 0 *ℤ R) *ℤ U)) *ℤ (pos j *ℤ pos w)) *ℤ (pos n *ℤ pos w) ≡ (((B +ℤ pos 0 *ℤ Q) *ℤ U) *ℤ (q *ℤ (R *ℤ pos w)) +ℤ (p *ℤ ((A +ℤ pos 0 *ℤ R) *ℤ U)) *ℤ ((c *ℤ R) *ℤ pos w)) *ℤ ((c *ℤ R) *ℤ pos w) = λ k. (((B +ℤ pos 0 *ℤ Q) *ℤ U) *ℤ (ei k *ℤ (el k *ℤ pos w)) +ℤ (p *ℤ ((A +ℤ pos 0 *ℤ R) *ℤ U)) *ℤ (ej k *ℤ pos w)) *ℤ (en k *ℤ pos w) in
    let b : ((D +ℤ pos 0 *ℤ X) *ℤ U) *ℤ ((pos j *ℤ pos w) *ℤ (pos i *ℤ (pos l *ℤ pos w))) ≡ ((D +ℤ pos 0 *ℤ X) *ℤ U) *ℤ (((c *ℤ R) *ℤ pos w) *ℤ (q *ℤ (R *ℤ pos w))) = λ k. ((D +ℤ pos 0 *ℤ X) *ℤ U) *ℤ ((ej k *ℤ pos w) *ℤ (ei k *ℤ (el k *ℤ pos w))) in
    let f : (((B +ℤ pos 0 *ℤ Q) *ℤ U) *ℤ (q *ℤ (R *ℤ pos w)) +ℤ (p *ℤ ((A +ℤ pos 0 *ℤ R) *ℤ U)) *ℤ ((c *ℤ R) *ℤ pos w)) *ℤ ((c *ℤ R) *ℤ pos w) ≡ (q *ℤ B +ℤ p *ℤ (c *ℤ A)) *ℤ (U *ℤ c *ℤ R *ℤ R *ℤ pos w *ℤ pos w) = ring (p ∷ q ∷ A ∷ B ∷ Q ∷ R ∷ c ∷ U ∷ pos w ∷ []) ((((v 3 ⊕ lit (pos 0) ⊗ v 4) ⊗ v 7) ⊗ (v 1 ⊗ (v 5 ⊗ v 8)) ⊕ (v 0 ⊗ ((v 2 ⊕ lit (pos 0) ⊗ v 5) ⊗ v 7)) ⊗ ((v 6 ⊗ v 5) ⊗ v 8)) ⊗ ((v 6 ⊗ v 5) ⊗ v 8)) ((v 1 ⊗ v 3 ⊕ v 0 ⊗ (v 6 ⊗ v 2)) ⊗ (v 7 ⊗ v 6 ⊗ v 5 ⊗ v 5 ⊗ v 8 ⊗ v 8)) tt in
    let g : (q *ℤ D) *ℤ (U *ℤ c *ℤ R *ℤ R *ℤ pos w *ℤ pos w) ≡ ((D +ℤ pos 0 *ℤ X) *ℤ U) *ℤ (((c *ℤ R) *ℤ pos w) *ℤ (q *ℤ (R *ℤ pos w))) = ring (q ∷ D ∷ X ∷ R ∷ c ∷ U ∷ pos w ∷ []) ((v 0 ⊗ v 1) ⊗ (v 5 ⊗ v 4 ⊗ v 3 ⊗ v 3 ⊗ v 6 ⊗ v 6)) (((v 1 ⊕ lit (pos 0) ⊗ v 2) ⊗ v 5) ⊗ (((v 4 ⊗ v 3) ⊗ v 6) ⊗ (v 0 ⊗ (v 3 ⊗ v 6)))) tt in
    a ∙ (f ∙ (ap (λ t. t *ℤ (U *ℤ c *ℤ R *ℤ R *ℤ pos w *ℤ pos w)) (sym e) ∙ (g ∙ sym b)))

module _ (p q : ℤ) (g : IsArgument p q) (x : ℤ) (xs : List ℤ) where
  rest-is : (length xs - length (derivative xs)) + length (derivative xs) ≡ length xs
  rest-is = let l : length (derivative xs) ≡ length xs - 1 = length-derivative xs in omega arith

  wider-power : power q (length xs) ≡ power q (length xs - length (derivative xs)) *ℤ power q (length (derivative xs))
  wider-power = ap (λ n. power q n) (sym rest-is) ∙ power-add q (length xs - length (derivative xs)) (length (derivative xs))

  wider-at : at p q (length xs) (derivative xs) ≡ power q (length xs - length (derivative xs)) *ℤ at p q (length (derivative xs)) (derivative xs)
  wider-at = ap (λ n. at p q n (derivative xs)) (sym rest-is) ∙ at-many p q (length xs - length (derivative xs)) (length (derivative xs)) (derivative xs) (omega arith)

  of_product : q *ℤ at p q (length (by_place 1 xs)) (by_place 1 xs) ≡ q *ℤ at p q (length xs) xs +ℤ p *ℤ (power q (length xs - length (derivative xs)) *ℤ at p q (length (derivative xs)) (derivative xs))
  of_product =
      let l : length (by_place 1 xs) ≡ length xs = length-by_place 1 xs in
      ap (λ n. q *ℤ at p q n (by_place 1 xs)) l ∙ (sym (at-more p q (length xs) (by_place 1 xs) (omega arith)) ∙ (at-derivative p q (length xs) x xs (omega arith) ∙ ap (λ t. q *ℤ at p q (length xs) xs +ℤ p *ℤ t) wider-at))

  pub near-steeper : (n : Model) (e : ℕ) (s : ℤ) → IsNear n p q (fraction_add (value (model xs e s) p q) (fraction_mul (fraction p (unsigned_abs q)) (value (model (derivative xs) e s) p q))) → IsNear n p q (value (model (derivative (x ∷ xs)) e s) p q)
  near-steeper n e s y =
      let l : length (by_place 1 xs) ≡ length xs = length-by_place 1 xs in
      near-same n p q (fraction_add (value (model xs e s) p q) (fraction_mul (fraction p (unsigned_abs q)) (value (model (derivative xs) e s) p q))) (value (model (derivative (x ∷ xs)) e s) p q) (value-denominator p q g (derivative (x ∷ xs)) s) (steep-step p q (at p q (length (derivative xs)) (derivative xs)) (at p q (length xs) xs) (at p q (length (by_place 1 xs)) (by_place 1 xs)) (power q (length xs)) (power q (length (derivative xs))) (power q (length (by_place 1 xs))) (power q (length xs - length (derivative xs))) (pos (2 ^ up s)) (unsigned_abs q) (unsigned_abs (power q (length xs))) (unsigned_abs (power q (length (derivative xs)))) (2 ^ down s) (unsigned_abs (power q (length (by_place 1 xs)))) (own-argument p q g) (own-power q (length xs) g.positive ∙ wider-power) (own-power q (length (derivative xs)) g.positive) (own-power q (length (by_place 1 xs)) g.positive ∙ (ap (λ n. power q n) l ∙ wider-power)) of_product) y
