-- The coefficients of a list, one after the other: what loops over arrays of coefficients need.
use Rattle.std.proofs.Common.{◌≡◌, ℕ, zero, suc, ◌+◌, ◌-◌, ◌*◌, ◌^◌, ◌<◌, ◌≤◌, arith, refl, sym, ap, subst, ◌∙◌, List, [], ◌∷◌, length, take, drop, replicate, ℤ, pos, ◌+ℤ◌, ◌*ℤ◌, neg_ℤ, unsigned_abs}
use Rattle.spec_numbers.specs.Numbers.{power, floor_div}
use Rattle.spec_numbers.proofs.Ring.{v, k as lit, ◌⊕◌, ◌⊗◌, ring}
use Rattle.spec_intervals.specs.Fraction.{Fraction}
use Rattle.spec_chebyshev.specs.Differences.{IsArgument}
use Rattle.spec_models.specs.Models.{Model, model, at, IsNear, sizes, weighted_sizes, coefficient, added, multiplied, opposite, convolved, products_upto, halved}
use borrow.Author.Differences.{up, down}
use Rattle.spec_models.proofs.Lists.{at-none}
use Rattle.spec_models.proofs.Nearness.{Apart, near-at, at-near}

-- ---- of sums, multiples, opposites and quotients
pub coefficient-added : (xs ys : List ℤ) (k : ℕ) → coefficient (added xs ys) k ≡ coefficient xs k +ℤ coefficient ys k
coefficient-added [] ys k = ring (coefficient ys k ∷ []) (v 0) (lit (pos 0) ⊕ v 0) tt
coefficient-added (x ∷ xs) [] k = ring (coefficient (x ∷ xs) k ∷ []) (v 0) (v 0 ⊕ lit (pos 0)) tt
coefficient-added (x ∷ xs) (y ∷ ys) zero = refl
coefficient-added (x ∷ xs) (y ∷ ys) (suc k) = coefficient-added xs ys k

pub coefficient-multiplied : (c : ℤ) (xs : List ℤ) (k : ℕ) → coefficient (multiplied c xs) k ≡ c *ℤ coefficient xs k
coefficient-multiplied c [] k = ring (c ∷ []) (lit (pos 0)) (v 0 ⊗ lit (pos 0)) tt
coefficient-multiplied c (x ∷ xs) zero = refl
coefficient-multiplied c (x ∷ xs) (suc k) = coefficient-multiplied c xs k

pub coefficient-opposite : (xs : List ℤ) (k : ℕ) → coefficient (opposite xs) k ≡ neg_ℤ (coefficient xs k)
coefficient-opposite [] k = refl
coefficient-opposite (x ∷ xs) zero = refl
coefficient-opposite (x ∷ xs) (suc k) = coefficient-opposite xs k

pub coefficient-halved : (n : ℕ) (xs : List ℤ) (k : ℕ) → k < length xs → coefficient (halved n xs) k ≡ floor_div (coefficient xs k) (2 ^ n)
coefficient-halved n [] k h = absurd (omega arith)
coefficient-halved n (x ∷ xs) zero h = refl
coefficient-halved n (x ∷ xs) (suc k) h = coefficient-halved n xs k (omega arith)

pub coefficient-take : (n : ℕ) (xs : List ℤ) (k : ℕ) → k < n → coefficient (take n xs) k ≡ coefficient xs k
coefficient-take zero xs k h = absurd (omega arith)
coefficient-take (suc n) [] k h = refl
coefficient-take (suc n) (x ∷ xs) zero h = refl
coefficient-take (suc n) (x ∷ xs) (suc k) h = coefficient-take n xs k (omega arith)

pub coefficient-drop : (n : ℕ) (xs : List ℤ) (k : ℕ) → coefficient (drop n xs) k ≡ coefficient xs (n + k)
coefficient-drop zero xs k = let z : 0 + k ≡ k = omega arith in sym (ap (λ i. coefficient xs i) z)
coefficient-drop (suc n) [] k = refl
coefficient-drop (suc n) (x ∷ xs) k = let s : suc n + k ≡ suc (n + k) = omega arith in coefficient-drop n xs k ∙ sym (ap (λ i. coefficient (x ∷ xs) i) s)

-- of zeros, however many
pub coefficient-zeros : (n k : ℕ) → coefficient (replicate n (pos 0)) k ≡ pos 0
coefficient-zeros zero k = refl
coefficient-zeros (suc n) zero = refl
coefficient-zeros (suc n) (suc k) = coefficient-zeros n k

pub zeros-same : (n k : ℕ) → coefficient (pos 0 ∷ []) k ≡ coefficient (replicate n (pos 0)) k
zeros-same n zero = sym (coefficient-zeros n 0)
zeros-same n (suc k) = sym (coefficient-zeros n (suc k))

-- past the last
pub coefficient-past : (xs : List ℤ) (k : ℕ) → length xs ≤ k → coefficient xs k ≡ pos 0
coefficient-past [] k h = refl
coefficient-past (x ∷ xs) zero h = absurd (omega arith)
coefficient-past (x ∷ xs) (suc k) h = coefficient-past xs k (omega arith)

-- ---- of products
-- with a constant
pub coefficient-by_constant : (x : ℤ) (ys : List ℤ) (k : ℕ) → coefficient (convolved (x ∷ []) ys) k ≡ x *ℤ coefficient ys k
coefficient-by_constant x ys k =
    coefficient-added (multiplied x ys) (pos 0 ∷ []) k ∙ ((λ i. coefficient-multiplied x ys k i +ℤ coefficient-zeros 1 k i) ∙ ring (x ∷ coefficient ys k ∷ []) (v 0 ⊗ v 1 ⊕ lit (pos 0)) (v 0 ⊗ v 1) tt)

-- the first factor's first coefficient apart
products-first : (n k : ℕ) (x : ℤ) (xs ys : List ℤ) → products_upto (suc n) (suc k) (x ∷ xs) ys ≡ x *ℤ coefficient ys (suc k) +ℤ products_upto n k xs ys
products-first zero k x xs ys =
    let z : suc k - 0 ≡ suc k = omega arith in
    ap (λ i. pos 0 +ℤ x *ℤ coefficient ys i) z ∙ ring (x ∷ coefficient ys (suc k) ∷ []) (lit (pos 0) ⊕ v 0 ⊗ v 1) (v 0 ⊗ v 1 ⊕ lit (pos 0)) tt
products-first (suc n) k x xs ys =
    let s : suc k - suc n ≡ k - n = omega arith in
    let a : products_upto (suc n) (suc k) (x ∷ xs) ys ≡ x *ℤ coefficient ys (suc k) +ℤ products_upto n k xs ys = products-first n k x xs ys in
    ap (λ t. t +ℤ coefficient xs n *ℤ coefficient ys (suc k - suc n)) a ∙ (ap (λ i. (x *ℤ coefficient ys (suc k) +ℤ products_upto n k xs ys) +ℤ coefficient xs n *ℤ coefficient ys i) s ∙ ring ((x *ℤ coefficient ys (suc k)) ∷ products_upto n k xs ys ∷ (coefficient xs n *ℤ coefficient ys (k - n)) ∷ []) (v 0 ⊕ v 1 ⊕ v 2) (v 0 ⊕ (v 1 ⊕ v 2)) tt)

products-none : (n k : ℕ) (ys : List ℤ) → products_upto n k [] ys ≡ pos 0
products-none zero k ys = refl
products-none (suc n) k ys =
    ap (λ t. t +ℤ pos 0 *ℤ coefficient ys (k - n)) (products-none n k ys) ∙ ring (coefficient ys (k - n) ∷ []) (lit (pos 0) ⊕ lit (pos 0) ⊗ v 0) (lit (pos 0)) tt

pub coefficient-convolved : (xs ys : List ℤ) (k : ℕ) → coefficient (convolved xs ys) k ≡ products_upto (suc k) k xs ys
coefficient-convolved [] ys k = sym (products-none (suc k) k ys)
coefficient-convolved (x ∷ xs) ys zero =
    coefficient-added (multiplied x ys) (pos 0 ∷ convolved xs ys) 0 ∙ (ap (λ t. t +ℤ pos 0) (coefficient-multiplied x ys 0) ∙ ring (x ∷ coefficient ys 0 ∷ []) (v 0 ⊗ v 1 ⊕ lit (pos 0)) (lit (pos 0) ⊕ v 0 ⊗ v 1) tt)
coefficient-convolved (x ∷ xs) ys (suc k) =
    coefficient-added (multiplied x ys) (pos 0 ∷ convolved xs ys) (suc k) ∙ (ap (λ t. t +ℤ coefficient (convolved xs ys) k) (coefficient-multiplied x ys (suc k)) ∙ (ap (λ t. x *ℤ coefficient ys (suc k) +ℤ t) (coefficient-convolved xs ys k) ∙ sym (products-first (suc k) k x xs ys)))

-- ---- sizes of parts
pub sizes-take : (xs : List ℤ) (i : ℕ) → sizes (take (suc i) xs) ≡ sizes (take i xs) + unsigned_abs (coefficient xs i)
sizes-take [] zero = refl
sizes-take [] (suc i) = refl
sizes-take (x ∷ xs) zero = omega arith
sizes-take (x ∷ xs) (suc i) = let ih : sizes (take (suc i) xs) ≡ sizes (take i xs) + unsigned_abs (coefficient xs i) = sizes-take xs i in omega arith

pub sizes-drop : (xs : List ℤ) (i : ℕ) → sizes (drop i xs) ≡ unsigned_abs (coefficient xs i) + sizes (drop (suc i) xs)
sizes-drop [] zero = refl
sizes-drop [] (suc i) = refl
sizes-drop (x ∷ xs) zero = refl
sizes-drop (x ∷ xs) (suc i) = sizes-drop xs i

pub sizes-parts : (xs : List ℤ) (i : ℕ) → sizes (take i xs) + sizes (drop i xs) ≡ sizes xs
sizes-parts xs zero = omega arith
sizes-parts [] (suc i) = refl
sizes-parts (x ∷ xs) (suc i) = let ih : sizes (take i xs) + sizes (drop i xs) ≡ sizes xs = sizes-parts xs i in omega arith

pub weighted-take : (n : ℕ) (xs : List ℤ) (i : ℕ) → weighted_sizes n (take (suc i) xs) ≡ weighted_sizes n (take i xs) + (n + i) * unsigned_abs (coefficient xs i)
weighted-take n [] zero = omega arith
weighted-take n [] (suc i) = omega arith
weighted-take n (x ∷ xs) zero =
    let e : n + 0 ≡ n = omega arith in
    let f : (n + 0) * unsigned_abs x ≡ n * unsigned_abs x = ap (λ t. t * unsigned_abs x) e in omega (arith, f)
weighted-take n (x ∷ xs) (suc i) =
    let ih : weighted_sizes (suc n) (take (suc i) xs) ≡ weighted_sizes (suc n) (take i xs) + (suc n + i) * unsigned_abs (coefficient xs i) = weighted-take (suc n) xs i in
    let e : suc n + i ≡ n + suc i = omega arith in
    let f : (suc n + i) * unsigned_abs (coefficient xs i) ≡ (n + suc i) * unsigned_abs (coefficient xs i) = ap (λ t. t * unsigned_abs (coefficient xs i)) e in omega (arith, ih, f)

-- ---- lists with the same coefficients
pub same-lists : (xs ys : List ℤ) → length xs ≡ length ys → ((k : ℕ) → k < length xs → coefficient xs k ≡ coefficient ys k) → xs ≡ ys
same-lists [] [] e h = refl
same-lists [] (y ∷ ys) e h = absurd (omega arith)
same-lists (x ∷ xs) [] e h = absurd (omega arith)
same-lists (x ∷ xs) (y ∷ ys) e h =
    let a : x ≡ y = h 0 (omega arith) in
    let b : xs ≡ ys = same-lists xs ys (omega arith) (λ k l. h (suc k) (omega arith)) in λ i. a i ∷ b i

nothing-at : (p q : ℤ) (d : ℕ) (xs : List ℤ) → ((k : ℕ) → coefficient xs k ≡ pos 0) → at p q d xs ≡ pos 0
nothing-at p q d [] h = at-none p q d
nothing-at p q zero (x ∷ xs) h = h 0
nothing-at p q (suc d) (x ∷ xs) h =
    ap (λ t. t *ℤ power q (suc d) +ℤ p *ℤ at p q d xs) (h 0) ∙ (ap (λ t. pos 0 *ℤ power q (suc d) +ℤ p *ℤ t) (nothing-at p q d xs (λ k. h (suc k))) ∙ ring (p ∷ power q (suc d) ∷ []) (lit (pos 0) ⊗ v 1 ⊕ v 0 ⊗ lit (pos 0)) (lit (pos 0)) tt)

pub same-at : (p q : ℤ) (d : ℕ) (xs ys : List ℤ) → ((k : ℕ) → coefficient xs k ≡ coefficient ys k) → at p q d xs ≡ at p q d ys
same-at p q d [] ys h = at-none p q d ∙ sym (nothing-at p q d ys (λ k. sym (h k)))
same-at p q d (x ∷ xs) [] h = nothing-at p q d (x ∷ xs) h ∙ sym (at-none p q d)
same-at p q zero (x ∷ xs) (y ∷ ys) h = h 0
same-at p q (suc d) (x ∷ xs) (y ∷ ys) h =
    ap (λ t. t *ℤ power q (suc d) +ℤ p *ℤ at p q d xs) (h 0) ∙ ap (λ t. y *ℤ power q (suc d) +ℤ p *ℤ t) (same-at p q d xs ys (λ k. h (suc k)))

-- a number near a model is near one with the same coefficients, however many zeros stand behind them
pub near-same_coefficients : (p q : ℤ) → IsArgument p q → (m : Model) (ys : List ℤ) (r : Fraction) → ((k : ℕ) → coefficient m.coefficients k ≡ coefficient ys k) → IsNear m p q r → IsNear (model ys m.error m.exponent) p q r
near-same_coefficients p q g m ys r h x =
    let a = near-at m p q r g (length m.coefficients + length ys) (up m.exponent) (down m.exponent) (omega arith) refl x in
    at-near (model ys m.error m.exponent) p q r g (length m.coefficients + length ys) (up m.exponent) (down m.exponent) (omega arith) refl x.is_fraction (subst (λ t. Apart t (power q (length m.coefficients + length ys)) (pos m.error) (pos (2 ^ up m.exponent)) (pos (2 ^ down m.exponent)) r.numerator (pos r.denominator)) (same-at p q (length m.coefficients + length ys) m.coefficients ys h) a)

-- ---- lengths
pub length-even : (xs ys : List ℤ) → length xs ≡ length ys → length (added xs ys) ≡ length xs
length-even [] [] e = refl
length-even [] (y ∷ ys) e = sym e
length-even (x ∷ xs) [] e = refl
length-even (x ∷ xs) (y ∷ ys) e = ap suc (length-even xs ys (omega arith))

length-second : (xs ys : List ℤ) → length ys ≤ length (added xs ys)
length-second [] ys = omega arith
length-second (x ∷ xs) [] = omega arith
length-second (x ∷ xs) (y ∷ ys) = let ih : length ys ≤ length (added xs ys) = length-second xs ys in omega arith

pub length-longer : (xs ys : List ℤ) → length xs ≤ length (convolved xs ys)
length-longer [] ys = omega arith
length-longer (x ∷ xs) ys =
    let ih : length xs ≤ length (convolved xs ys) = length-longer xs ys in
    let s : suc (length (convolved xs ys)) ≤ length (added (multiplied x ys) (pos 0 ∷ convolved xs ys)) = length-second (multiplied x ys) (pos 0 ∷ convolved xs ys) in
    omega arith
