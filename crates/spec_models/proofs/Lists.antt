-- What lists of coefficients are at an argument: sums, multiples, products, and the same at a greater degree.
use Rattle.std.proofs.Common.{◌≡◌, ℕ, zero, suc, ◌+◌, ◌≤◌, arith, refl, sym, ap, ◌∙◌, List, [], ◌∷◌, length, ℤ, pos, ◌+ℤ◌, ◌*ℤ◌, neg_ℤ}
use Rattle.spec_numbers.specs.Numbers.{power}
use Rattle.spec_numbers.proofs.Ring.{v, k as lit, ◌⊕◌, ◌⊗◌, minus, ring}
use Rattle.spec_models.specs.Models.{at, added, multiplied, opposite, halved, convolved}

-- ---- at a greater degree
pub at-none : (p q : ℤ) (d : ℕ) → at p q d [] ≡ pos 0
at-none p q zero = refl
at-none p q (suc d) = refl

pub at-more : (p q : ℤ) (d : ℕ) (xs : List ℤ) → length xs ≤ d → at p q (suc d) xs ≡ q *ℤ at p q d xs
at-more p q zero [] h = ring (q ∷ []) (lit (pos 0)) (v 0 ⊗ lit (pos 0)) tt
at-more p q (suc d) [] h = ring (q ∷ []) (lit (pos 0)) (v 0 ⊗ lit (pos 0)) tt
at-more p q zero (x ∷ xs) h = absurd (omega arith)
at-more p q (suc d) (x ∷ xs) h =
    ap (λ y. x *ℤ power q (suc (suc d)) +ℤ p *ℤ y) (at-more p q d xs (omega arith)) ∙ ring (p ∷ q ∷ x ∷ power q d ∷ at p q d xs ∷ []) (v 2 ⊗ (v 1 ⊗ (v 1 ⊗ v 3)) ⊕ v 0 ⊗ (v 1 ⊗ v 4)) (v 1 ⊗ (v 2 ⊗ (v 1 ⊗ v 3) ⊕ v 0 ⊗ v 4)) tt

pub at-many : (p q : ℤ) (n d : ℕ) (xs : List ℤ) → length xs ≤ d → at p q (n + d) xs ≡ power q n *ℤ at p q d xs
at-many p q zero d xs h =
    let z : 0 + d ≡ d = omega arith in
    ap (λ n. at p q n xs) z ∙ ring (at p q d xs ∷ []) (v 0) (lit (pos 1) ⊗ v 0) tt
at-many p q (suc n) d xs h =
    let s : suc n + d ≡ suc (n + d) = omega arith in
    ap (λ m. at p q m xs) s ∙ (at-more p q (n + d) xs (omega arith) ∙ (ap (λ y. q *ℤ y) (at-many p q n d xs h) ∙ ring (q ∷ power q n ∷ at p q d xs ∷ []) (v 0 ⊗ (v 1 ⊗ v 2)) ((v 0 ⊗ v 1) ⊗ v 2) tt))

-- ---- sums, multiples, opposites
pub at-added : (p q : ℤ) (d : ℕ) (xs ys : List ℤ) → at p q d (added xs ys) ≡ at p q d xs +ℤ at p q d ys
at-added p q zero [] ys = ring (at p q zero ys ∷ []) (v 0) (lit (pos 0) ⊕ v 0) tt
at-added p q (suc d) [] ys = ring (at p q (suc d) ys ∷ []) (v 0) (lit (pos 0) ⊕ v 0) tt
at-added p q zero (x ∷ xs) [] = ring (x ∷ []) (v 0) (v 0 ⊕ lit (pos 0)) tt
at-added p q (suc d) (x ∷ xs) [] = ring (at p q (suc d) (x ∷ xs) ∷ []) (v 0) (v 0 ⊕ lit (pos 0)) tt
at-added p q zero (x ∷ xs) (y ∷ ys) = refl
at-added p q (suc d) (x ∷ xs) (y ∷ ys) =
    ap (λ t. (x +ℤ y) *ℤ power q (suc d) +ℤ p *ℤ t) (at-added p q d xs ys) ∙ ring (p ∷ x ∷ y ∷ power q (suc d) ∷ at p q d xs ∷ at p q d ys ∷ []) ((v 1 ⊕ v 2) ⊗ v 3 ⊕ v 0 ⊗ (v 4 ⊕ v 5)) ((v 1 ⊗ v 3 ⊕ v 0 ⊗ v 4) ⊕ (v 2 ⊗ v 3 ⊕ v 0 ⊗ v 5)) tt

pub at-multiplied : (p q : ℤ) (d : ℕ) (c : ℤ) (xs : List ℤ) → at p q d (multiplied c xs) ≡ c *ℤ at p q d xs
at-multiplied p q zero c [] = ring (c ∷ []) (lit (pos 0)) (v 0 ⊗ lit (pos 0)) tt
at-multiplied p q (suc d) c [] = ring (c ∷ []) (lit (pos 0)) (v 0 ⊗ lit (pos 0)) tt
at-multiplied p q zero c (x ∷ xs) = refl
at-multiplied p q (suc d) c (x ∷ xs) =
    ap (λ t. (c *ℤ x) *ℤ power q (suc d) +ℤ p *ℤ t) (at-multiplied p q d c xs) ∙ ring (p ∷ c ∷ x ∷ power q (suc d) ∷ at p q d xs ∷ []) ((v 1 ⊗ v 2) ⊗ v 3 ⊕ v 0 ⊗ (v 1 ⊗ v 4)) (v 1 ⊗ (v 2 ⊗ v 3 ⊕ v 0 ⊗ v 4)) tt

pub at-opposite : (p q : ℤ) (d : ℕ) (xs : List ℤ) → at p q d (opposite xs) ≡ neg_ℤ (at p q d xs)
at-opposite p q zero [] = refl
at-opposite p q (suc d) [] = refl
at-opposite p q zero (x ∷ xs) = refl
at-opposite p q (suc d) (x ∷ xs) =
    ap (λ t. neg_ℤ x *ℤ power q (suc d) +ℤ p *ℤ t) (at-opposite p q d xs) ∙ ring (p ∷ x ∷ power q (suc d) ∷ at p q d xs ∷ []) (minus (v 1) ⊗ v 2 ⊕ v 0 ⊗ minus (v 3)) (minus (v 1 ⊗ v 2 ⊕ v 0 ⊗ v 3)) tt

-- ---- products
pub at-convolved : (p q : ℤ) (d e : ℕ) (xs ys : List ℤ) → length xs ≤ d → length ys ≤ e → at p q (d + e) (convolved xs ys) ≡ at p q d xs *ℤ at p q e ys
at-convolved p q zero e [] ys h g = at-none p q (0 + e) ∙ ring (at p q e ys ∷ []) (lit (pos 0)) (lit (pos 0) ⊗ v 0) tt
at-convolved p q (suc d) e [] ys h g = ring (at p q e ys ∷ []) (lit (pos 0)) (lit (pos 0) ⊗ v 0) tt
at-convolved p q zero e (x ∷ xs) ys h g = absurd (omega arith)
at-convolved p q (suc d) e (x ∷ xs) ys h g =
    let s : suc d + e ≡ suc (d + e) = omega arith in
    let a : at p q (suc (d + e)) (added (multiplied x ys) (pos 0 ∷ convolved xs ys)) ≡ at p q (suc (d + e)) (multiplied x ys) +ℤ (pos 0 *ℤ power q (suc (d + e)) +ℤ p *ℤ at p q (d + e) (convolved xs ys)) = at-added p q (suc (d + e)) (multiplied x ys) (pos 0 ∷ convolved xs ys) in
    let m : at p q (suc (d + e)) ys ≡ power q (suc d) *ℤ at p q e ys = ap (λ m. at p q m ys) (sym s) ∙ at-many p q (suc d) e ys g in
    let b : at p q (suc (d + e)) (multiplied x ys) ≡ x *ℤ (power q (suc d) *ℤ at p q e ys) = at-multiplied p q (suc (d + e)) x ys ∙ ap (λ t. x *ℤ t) m in
    let ih : at p q (d + e) (convolved xs ys) ≡ at p q d xs *ℤ at p q e ys = at-convolved p q d e xs ys (omega arith) g in
    ap (λ m. at p q m (added (multiplied x ys) (pos 0 ∷ convolved xs ys))) s ∙ (a ∙ (ap (λ t. t +ℤ (pos 0 *ℤ power q (suc (d + e)) +ℤ p *ℤ at p q (d + e) (convolved xs ys))) b ∙ (ap (λ t. x *ℤ (power q (suc d) *ℤ at p q e ys) +ℤ (pos 0 *ℤ power q (suc (d + e)) +ℤ p *ℤ t)) ih ∙ ring (p ∷ x ∷ power q (suc d) ∷ at p q e ys ∷ power q (suc (d + e)) ∷ at p q d xs ∷ []) (v 1 ⊗ (v 2 ⊗ v 3) ⊕ (lit (pos 0) ⊗ v 4 ⊕ v 0 ⊗ (v 5 ⊗ v 3))) ((v 1 ⊗ v 2 ⊕ v 0 ⊗ v 5) ⊗ v 3) tt)))

-- ---- lengths
pub length-added : (xs ys : List ℤ) (d : ℕ) → length xs ≤ d → length ys ≤ d → length (added xs ys) ≤ d
length-added [] ys d h g = g
length-added (x ∷ xs) [] d h g = h
length-added (x ∷ xs) (y ∷ ys) zero h g = absurd (omega arith)
length-added (x ∷ xs) (y ∷ ys) (suc d) h g = let ih : length (added xs ys) ≤ d = length-added xs ys d (omega arith) (omega arith) in omega arith

pub length-multiplied : (c : ℤ) (xs : List ℤ) → length (multiplied c xs) ≡ length xs
length-multiplied c [] = refl
length-multiplied c (x ∷ xs) = ap suc (length-multiplied c xs)

pub length-opposite : (xs : List ℤ) → length (opposite xs) ≡ length xs
length-opposite [] = refl
length-opposite (x ∷ xs) = ap suc (length-opposite xs)

pub length-halved : (k : ℕ) (xs : List ℤ) → length (halved k xs) ≡ length xs
length-halved k [] = refl
length-halved k (x ∷ xs) = ap suc (length-halved k xs)

pub length-convolved : (xs ys : List ℤ) → length (convolved xs ys) ≤ length xs + length ys
length-convolved [] ys = omega arith
length-convolved (x ∷ xs) ys =
    let ih : length (convolved xs ys) ≤ length xs + length ys = length-convolved xs ys in
    let e : length (multiplied x ys) ≡ length ys = length-multiplied x ys in
    length-added (multiplied x ys) (pos 0 ∷ convolved xs ys) (suc (length xs) + length ys) (omega arith) (omega arith)
