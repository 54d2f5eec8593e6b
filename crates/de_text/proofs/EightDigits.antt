-- Eight digits in a word.
use Rattle.std.proofs.Common.{◌≡◌, ℕ, ◌%◌, ◌^◌, ◌≤◌, arith, List, [], ◌∷◌, length, take, map, replicate, cond, IsTrue, nat_eq, nat_lt, Fits, get_or, w8, refl, ap, ◌∙◌, inl, inr}
use Rattle.std.proofs.lemmas.Bool.{cases_lt, lt-ltb}
use Rattle.std.proofs.lemmas.Bool.Decides.{nat_tests}
use Rattle.std.proofs.lemmas.List.{length-map, length-take-le, take_all}
use Rattle.std.proofs.lemmas.Simd.{tops_compared, zip2_splat_left, mask_l-mod, get_or_wider, chunk-fits, below_from_Fits}
use lib.Lanes.{mask_l, number_l, top, zip2}
use Rattle.spec_text.specs.Decimals.{AreDigits}

pub true_is : (a b : ℕ) → IsTrue (nat_eq a b) → a ≡ b
true_is a b test = grind (arith, nat_tests)

-- bytes of which none is marked as below those of digits or as above them
pub unmarked_digits : (bs : List ℕ) → mask_l (map (λ b. nat_lt b 48) bs) ≡ 0 → mask_l (map (λ b. nat_lt 57 b) bs) ≡ 0 → AreDigits bs
unmarked_digits [] below above = tt
unmarked_digits (b ∷ bs) below above = ((low, high), unmarked_digits bs (omega (arith, below)) (omega (arith, above)))
  where
    low : 48 ≤ b
    low = elim (cases_lt b 48) [
      | inl less ↦ absurd (omega (arith, (rw (lt-ltb b 48 less) at below)))
      | inr more ↦ more
    ]

    high : b ≤ 57
    high = elim (cases_lt 57 b) [
      | inl more ↦ absurd (omega (arith, (rw (lt-ltb 57 b more) at above)))
      | inr most ↦ most
    ]

-- the marks of some bytes above a 9, as they are made
pub above_marks : (n : ℕ) → n ≤ 64 → (bs : List ℕ) → length bs ≡ n
    → mask_l (map (top 7) (zip2 (λ a b. cond (nat_lt a b) 255 0) (replicate n 57) bs)) % 2 ^ 64 ≡ mask_l (map (λ b. nat_lt 57 b) bs)
above_marks n few bs long =
    ap (λ ms. mask_l ms % 2 ^ 64) (tops_compared w8 nat_lt (replicate n 57) bs ∙ zip2_splat_left nat_lt 57 n bs long)
    ∙ mask_l-mod (map (λ b. nat_lt 57 b) bs) 64 (omega (arith, length-map bs (λ b. nat_lt 57 b), long, few))

-- the word of eight bytes
pub word_is : (text : List ℕ) → 8 ≤ length text → ((k : ℕ) → Fits w8 (get_or text k 0)) → number_l 256 (take 8 text) % 2 ^ 64 ≡ number_l 256 (take 8 text)
word_is text long fit =
    let bytes = take 8 text in
    let few : length bytes ≤ 8 = omega (arith, length-take-le 8 text long) in
    get_or_wider 256 8 (2 ^ 64) 1 bytes 0 refl (below_from_Fits w8 bytes (chunk-fits w8 0 8 text fit)) (omega arith)
    ∙ ap (number_l 256) (take_all 8 bytes few)
