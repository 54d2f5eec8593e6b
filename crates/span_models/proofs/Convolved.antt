-- How many coefficients a product of two polynomials has, and the sizes of those that are left out.
use Rattle.std.proofs.Common.{◌≡◌, ◌∙◌, ℕ, zero, suc, ◌+◌, ◌*◌, ◌<◌, ◌≤◌, arith, refl, List, [], ◌∷◌, length, get_or, drop, ℤ, pos, ◌+ℤ◌, ◌*ℤ◌, unsigned_abs}
use Rattle.std.proofs.lemmas.Int.{ints, unsigned_abs-mul}
use Rattle.std.proofs.lemmas.List.{at_drop_more}
use Rattle.spec_models.specs.Models.{added, multiplied, convolved, sizes}
use Rattle.spec_models.proofs.Lists.{length-multiplied}
use Rattle.span_models.specs.Columns.{tail_sizes}

-- ---- how many there are
length-added : (xs ys : List ℤ) → length xs ≤ length (added xs ys)
length-added [] ys = omega arith
length-added (x ∷ xs) [] = omega arith
length-added (x ∷ xs) (y ∷ ys) = let h = length-added xs ys in omega (arith, h)

pub length-convolved : (xs ys : List ℤ) → 0 < length xs → length ys ≤ length (convolved xs ys)
length-convolved [] ys h = absurd (omega (arith, h))
length-convolved (x ∷ xs) ys h =
    let l = length-added (multiplied x ys) (pos 0 ∷ convolved xs ys) in
    let m = length-multiplied x ys in
    omega (arith, l, m)

-- ---- the sizes of what is past the n-th
tail-none : (n : ℕ) → sizes (drop n []) ≡ 0
tail-none zero = refl
tail-none (suc n) = refl

sizes-added : (xs ys : List ℤ) → sizes (added xs ys) ≤ sizes xs + sizes ys
sizes-added [] ys = omega arith
sizes-added (x ∷ xs) [] = omega arith
sizes-added (x ∷ xs) (y ∷ ys) =
    let h = sizes-added xs ys in
    let s : unsigned_abs (x +ℤ y) ≤ unsigned_abs x + unsigned_abs y = omega (arith, ints) in
    omega (arith, h, s)

tail-added : (n : ℕ) (xs ys : List ℤ) → sizes (drop n (added xs ys)) ≤ sizes (drop n xs) + sizes (drop n ys)
tail-added zero xs ys = sizes-added xs ys
tail-added (suc n) [] ys = omega arith
tail-added (suc n) (x ∷ xs) [] = omega arith
tail-added (suc n) (x ∷ xs) (y ∷ ys) = tail-added n xs ys

sizes-multiplied : (c : ℤ) (xs : List ℤ) → sizes (multiplied c xs) ≡ unsigned_abs c * sizes xs
sizes-multiplied c [] = omega arith
sizes-multiplied c (x ∷ xs) =
    let h = sizes-multiplied c xs in
    let s : unsigned_abs (c *ℤ x) ≡ unsigned_abs c * unsigned_abs x = unsigned_abs-mul c x in
    omega (arith, h, s)

tail-multiplied : (n : ℕ) (c : ℤ) (xs : List ℤ) → sizes (drop n (multiplied c xs)) ≡ unsigned_abs c * sizes (drop n xs)
tail-multiplied zero c xs = sizes-multiplied c xs
tail-multiplied (suc n) c [] = omega arith
tail-multiplied (suc n) c (x ∷ xs) = tail-multiplied n c xs

pub tail-convolved : (xs ys : List ℤ) (n : ℕ) → sizes (drop n (convolved xs ys)) ≤ tail_sizes xs ys n
tail-convolved [] ys n = let h = tail-none n in omega (arith, h)
tail-convolved (x ∷ xs) ys zero =
    let a = tail-added 0 (multiplied x ys) (pos 0 ∷ convolved xs ys) in
    let m = tail-multiplied 0 x ys in
    let h = tail-convolved xs ys 0 in
    omega (arith, a, m, h)
tail-convolved (x ∷ xs) ys (suc n) =
    let a = tail-added (suc n) (multiplied x ys) (pos 0 ∷ convolved xs ys) in
    let m = tail-multiplied (suc n) x ys in
    let h = tail-convolved xs ys n in
    omega (arith, a, m, h)

-- ---- one more coefficient of the first polynomial
pub tail-step : (xs ys : List ℤ) (i n m : ℕ) → i < length xs → n ≡ suc m → tail_sizes (drop i xs) ys n ≡ unsigned_abs (get_or xs i (pos 0)) * sizes (drop n ys) + tail_sizes (drop (i + 1) xs) ys m
tail-step xs ys i n m lt e = at_drop_more (λ zs. tail_sizes zs ys n) xs i (pos 0) lt ∙ rw e refl
