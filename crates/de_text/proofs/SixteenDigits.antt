-- Sixteen digits in a vector of bytes, four of them to a lane.
use Rattle.std.proofs.Common.{◌≡◌, ℕ, zero, suc, ◌+◌, ◌-◌, ◌*◌, ◌%◌, ◌^◌, ◌<◌, List, [], ◌∷◌, ◌++◌, length, get_or, take, drop, refl, sym, ap, ◌∙◌, subst, arith}
use lib.Lanes.{dots, pick_l, zip2}
use Rattle.spec_text.specs.Decimals.{IsDigit, AreDigits, value, value_after}
use Rattle.spec_text.proofs.Significant.{value_after_high}

-- as many zeros as so many fours have, one hundred for each, and the weights of their first and of their last two digits
abbrev pub zeros : ℕ → List ℕ
zeros zero = []
zeros (suc n) = 48 ∷ 48 ∷ 48 ∷ 48 ∷ zeros n

abbrev pub hundreds : ℕ → List ℕ
hundreds zero = []
hundreds (suc n) = 100 ∷ hundreds n

abbrev pub lefts : ℕ → List ℕ
lefts zero = []
lefts (suc n) = 10 ∷ 1 ∷ 0 ∷ 0 ∷ lefts n

abbrev pub rights : ℕ → List ℕ
rights zero = []
rights (suc n) = 0 ∷ 0 ∷ 10 ∷ 1 ∷ rights n

-- the numbers that each four digits write
abbrev pub fours : ℕ → List ℕ → List ℕ
fours zero xs = []
fours (suc n) xs = value (take 4 xs) ∷ fours n (drop 4 xs)

-- the digits of bytes, and the lanes that are made of them
abbrev pub digits_of : ℕ → List ℕ → List ℕ
digits_of n xs = zip2 (λ a b. (a + (256 - b)) % 256) xs (zeros n)

abbrev pub made : ℕ → List ℕ → List ℕ
made n xs =
    zip2 (λ a b. (a + b) % 2 ^ 32) (zip2 (λ a b. (a * b) % 2 ^ 32) (dots (digits_of n xs) (lefts n)) (hundreds n)) (dots (digits_of n xs) (rights n))

digit_is : (a : ℕ) → IsDigit a → (a + (256 - 48)) % 256 ≡ a - 48
digit_is a is = omega (arith, is.0, is.1)

digit_below : (a : ℕ) → IsDigit a → a - 48 < 10
digit_below a is = omega (arith, is.0, is.1)

small_four : (p q r s : ℕ) → p < 10 → q < 10 → r < 10 → s < 10
    → (((p * 10 + q * 1) + (r * 0 + s * 0)) * 100 % 2 ^ 32 + ((p * 0 + q * 0) + (r * 10 + s * 1))) % 2 ^ 32
    ≡ 10 * (10 * (10 * (10 * 0 + p) + q) + r) + s
small_four p q r s hp hq hr hs =
    let inner : ((p * 10 + q * 1) + (r * 0 + s * 0)) * 100 % 2 ^ 32 ≡ 1000 * p + 100 * q = omega (arith, hp, hq) in
    rw inner (omega (arith, hp, hq, hr, hs))

four_is : (a b c d : ℕ) → IsDigit a → IsDigit b → IsDigit c → IsDigit d
    → ((((a + (256 - 48)) % 256 * 10 + (b + (256 - 48)) % 256 * 1) + ((c + (256 - 48)) % 256 * 0 + (d + (256 - 48)) % 256 * 0)) * 100 % 2 ^ 32
    + (((a + (256 - 48)) % 256 * 0 + (b + (256 - 48)) % 256 * 0) + ((c + (256 - 48)) % 256 * 10 + (d + (256 - 48)) % 256 * 1))) % 2 ^ 32
    ≡ 10 * (10 * (10 * (10 * 0 + (a - 48)) + (b - 48)) + (c - 48)) + (d - 48)
four_is a b c d ha hb hc hd =
    (λ i. (((digit_is a ha i * 10 + digit_is b hb i * 1) + (digit_is c hc i * 0 + digit_is d hd i * 0)) * 100 % 2 ^ 32
    + ((digit_is a ha i * 0 + digit_is b hb i * 0) + (digit_is c hc i * 10 + digit_is d hd i * 1))) % 2 ^ 32)
    ∙ small_four (a - 48) (b - 48) (c - 48) (d - 48) (digit_below a ha) (digit_below b hb) (digit_below c hc) (digit_below d hd)

pub is_made : (n : ℕ) (xs : List ℕ) → length xs ≡ 4 * n → AreDigits xs → made n xs ≡ fours n xs
is_made zero [] long are = refl
is_made zero (x ∷ xs) long are = absurd (omega (arith, long))
is_made (suc n) [] long are = absurd (omega (arith, long))
is_made (suc n) (a ∷ []) long are = absurd (omega (arith, long))
is_made (suc n) (a ∷ b ∷ []) long are = absurd (omega (arith, long))
is_made (suc n) (a ∷ b ∷ c ∷ []) long are = absurd (omega (arith, long))
is_made (suc n) (a ∷ b ∷ c ∷ d ∷ xs) long are =
    let first = four_is a b c d are.0 are.1.0 are.1.1.0 are.1.1.1.0 in
    let rest = is_made n xs (omega (arith, long)) are.1.1.1.1 in
    λ i. first i ∷ rest i

-- the number that fours write after an earlier one
abbrev pub joined : ℕ → List ℕ → ℕ
joined n [] = n
joined n (f ∷ fs) = joined (10000 * n + f) fs

four_more : (n p q r s : ℕ) → 10 * (10 * (10 * (10 * n + p) + q) + r) + s ≡ 10000 * n + (10 * (10 * (10 * (10 * 0 + p) + q) + r) + s)
four_more n p q r s = omega arith

pub value_fours : (m n : ℕ) (xs : List ℕ) → length xs ≡ 4 * m → value_after n xs ≡ joined n (fours m xs)
value_fours zero n [] long = refl
value_fours zero n (x ∷ xs) long = absurd (omega (arith, long))
value_fours (suc m) n [] long = absurd (omega (arith, long))
value_fours (suc m) n (a ∷ []) long = absurd (omega (arith, long))
value_fours (suc m) n (a ∷ b ∷ []) long = absurd (omega (arith, long))
value_fours (suc m) n (a ∷ b ∷ c ∷ []) long = absurd (omega (arith, long))
value_fours (suc m) n (a ∷ b ∷ c ∷ d ∷ xs) long =
    ap (λ (k : ℕ). value_after k xs) (four_more n (a - 48) (b - 48) (c - 48) (d - 48))
    ∙ value_fours m (10000 * n + (10 * (10 * (10 * (10 * 0 + (a - 48)) + (b - 48)) + (c - 48)) + (d - 48))) xs (omega (arith, long))

four_lanes : (u v w x : ℕ) → 100000000 * (10000 * u + v) + (10000 * w + x) ≡ 10000 * (10000 * (10000 * (10000 * 0 + u) + v) + w) + x
four_lanes u v w x = omega arith

-- each four joined with the next one
abbrev pub eights : List ℕ → List ℕ
eights lanes =
    zip2 (λ a b. (a + b) % 2 ^ 32) (zip2 (λ a b. (a * b) % 2 ^ 32) lanes (10000 ∷ 10000 ∷ 10000 ∷ 10000 ∷ []))
    (pick_l 0 (lanes ++ lanes) (1 ∷ 1 ∷ 3 ∷ 3 ∷ []))

four_below : (p q r s : ℕ) → p < 10 → q < 10 → r < 10 → s < 10 → 10 * (10 * (10 * (10 * 0 + p) + q) + r) + s < 10000
four_below p q r s hp hq hr hs = omega (arith, hp, hq, hr, hs)

fours_below : (n : ℕ) (xs : List ℕ) → length xs ≡ 4 * n → AreDigits xs → (k : ℕ) → get_or (fours n xs) k 0 < 10000
fours_below zero xs long are zero = omega arith
fours_below zero xs long are (suc k) = omega arith
fours_below (suc n) [] long are k = absurd (omega (arith, long))
fours_below (suc n) (a ∷ []) long are k = absurd (omega (arith, long))
fours_below (suc n) (a ∷ b ∷ []) long are k = absurd (omega (arith, long))
fours_below (suc n) (a ∷ b ∷ c ∷ []) long are k = absurd (omega (arith, long))
fours_below (suc n) (a ∷ b ∷ c ∷ d ∷ xs) long are zero =
    four_below (a - 48) (b - 48) (c - 48) (d - 48)
    (digit_below a are.0) (digit_below b are.1.0) (digit_below c are.1.1.0) (digit_below d are.1.1.1.0)
fours_below (suc n) (a ∷ b ∷ c ∷ d ∷ xs) long are (suc k) = fours_below n xs (omega (arith, long)) are.1.1.1.1 k

pair_is : (u v : ℕ) → u < 10000 → v < 10000 → (u * 10000 % 2 ^ 32 + v) % 2 ^ 32 ≡ 10000 * u + v
pair_is u v hu hv =
    let inner : u * 10000 % 2 ^ 32 ≡ 10000 * u = omega (arith, hu) in
    rw inner (omega (arith, hu, hv))

-- the number that the lanes of sixteen digits make
pub sixteen_are : (xs : List ℕ) (p q : ℕ) → length xs ≡ 16 → AreDigits xs
    → p ≡ get_or (eights (made 4 xs)) 0 0 → q ≡ get_or (eights (made 4 xs)) 2 0 → 100000000 * p + q ≡ value xs
sixteen_are xs p q long are first second =
    let u = value (take 4 xs) in
    let v = value (take 4 (drop 4 xs)) in
    let w = value (take 4 (drop 4 (drop 4 xs))) in
    let x = value (take 4 (drop 4 (drop 4 (drop 4 xs)))) in
    let lanes = is_made 4 xs long are in
    let below = fours_below 4 xs long are in
    let upper : p ≡ 10000 * u + v = first ∙ ap (λ (l : List ℕ). get_or (eights l) 0 0) lanes ∙ pair_is u v (below 0) (below 1) in
    let lower : q ≡ 10000 * w + x = second ∙ ap (λ (l : List ℕ). get_or (eights l) 2 0) lanes ∙ pair_is w x (below 2) (below 3) in
    (λ i. 100000000 * upper i + lower i)
    ∙ four_lanes u v w x
    ∙ sym (value_fours 4 0 xs long)

-- and it is below ten to the sixteen
pub sixteen_below : (xs : List ℕ) (n : ℕ) → length xs ≡ 16 → AreDigits xs → n ≡ value xs → n < 10 ^ 16
sixteen_below xs n long are is =
    let high : value xs < (0 + 1) * 10 ^ 16 = subst (λ (k : ℕ). value xs < (0 + 1) * 10 ^ k) long (value_after_high 0 xs are) in
    omega (arith, is, high)
