-- The front of a field, by the word of its first four bytes.
use Rattle.std.proofs.Common.{◌≡◌, ℕ, zero, suc, ◌+◌, ◌-◌, ◌*◌, ◌%◌, ◌^◌, ◌<◌, ◌≤◌, true, nat_eq, List, [], ◌∷◌, length, get_or, take, drop, Fits, w8, refl, ap, ◌∙◌, arith}
use Rattle.std.proofs.lemmas.List.{length-take-le, take_all}
use Rattle.std.proofs.lemmas.Simd.{get_or_wider, chunk-fits, below_from_Fits}
use lib.Lanes.{number_l}
use Rattle.spec_text.specs.Lines.{is_separator}
use Rattle.spec_text.specs.Splitting.{sign_at}
use Rattle.de_text.specs.Parts.{is_minus}

-- the word of four bytes
pub front_word_is : (text : List ℕ) → 4 ≤ length text → ((k : ℕ) → Fits w8 (get_or text k 0)) → number_l 256 (take 4 text) % 2 ^ 32 ≡ number_l 256 (take 4 text)
front_word_is text long fit =
    let bytes = take 4 text in
    let few : length bytes ≤ 4 = omega (arith, length-take-le 4 text long) in
    get_or_wider 256 4 (2 ^ 32) 1 bytes 0 refl (below_from_Fits w8 bytes (chunk-fits w8 0 4 text fit)) (omega arith)
    ∙ ap (number_l 256) (take_all 4 bytes few)

-- two blanks, or a blank and a minus, which is the odd one, a 0 and a point
pub record IsFront (line : List ℕ) (odd : ℕ) : Type 0 where
  pub blank : get_or line 0 0 ≡ 32
  pub sign : get_or line 1 0 ≡ 32 + 13 * odd
  pub digit : get_or line 2 0 ≡ 48
  pub point : get_or line 3 0 ≡ 46

pub front_of : (line : List ℕ) (odd : ℕ) → 4 ≤ length line → ((k : ℕ) → Fits w8 (get_or line k 0)) → odd < 2
    → number_l 256 (take 4 line) ≡ 774905888 + 3328 * odd → IsFront line odd
front_of [] odd long fit small is = absurd (omega (arith, long))
front_of (a ∷ []) odd long fit small is = absurd (omega (arith, long))
front_of (a ∷ b ∷ []) odd long fit small is = absurd (omega (arith, long))
front_of (a ∷ b ∷ c ∷ []) odd long fit small is = absurd (omega (arith, long))
front_of (a ∷ b ∷ c ∷ d ∷ rest) odd long fit small is =
    let fa : a < 256 = (fit 0).fits in
    let fb : b < 256 = (fit 1).fits in
    let fc : c < 256 = (fit 2).fits in
    let sum : a + 256 * (b + 256 * (c + 256 * (d + 256 * 0))) ≡ 774905888 + 3328 * odd = is in
    let last : d ≡ 46 = omega (arith, sum, fa, fb, fc, small) in
    let third : c ≡ 48 = omega (arith, sum, last, fa, fb, small) in
    let second : b ≡ 32 + 13 * odd = omega (arith, sum, last, third, fa, small) in
    record { blank = omega (arith, sum, last, third, second); sign = second; digit = third; point = last }

pub front_before : (line : List ℕ) (odd : ℕ) → odd < 2 → IsFront line odd → (k : ℕ) → k < 2 - odd → is_separator (get_or line k 0) ≡ true
front_before line odd small is zero below = rw is.blank refl
front_before line zero small is (suc zero) below = rw is.sign refl
front_before line (suc odd) small is (suc zero) below = absurd (omega (arith, below))
front_before line odd small is (suc (suc k)) below = absurd (omega (arith, below))

pub front_negative : (line : List ℕ) (odd : ℕ) → 4 ≤ length line → odd < 2 → IsFront line odd
    → nat_eq odd 1 ≡ is_minus (sign_at (take (26 - (2 - odd)) (drop (2 - odd) line))).0
front_negative [] odd long small is = absurd (omega (arith, long))
front_negative (a ∷ []) odd long small is = absurd (omega (arith, long))
front_negative (a ∷ b ∷ []) odd long small is = absurd (omega (arith, long))
front_negative (a ∷ b ∷ c ∷ []) odd long small is = absurd (omega (arith, long))
front_negative (a ∷ b ∷ c ∷ d ∷ rest) zero long small is = rw is.digit refl
front_negative (a ∷ b ∷ c ∷ d ∷ rest) (suc zero) long small is = rw is.sign refl
front_negative (a ∷ b ∷ c ∷ d ∷ rest) (suc (suc odd)) long small is = absurd (omega (arith, small))

pub front_digits : (line : List ℕ) (odd : ℕ) → 4 ≤ length line → odd < 2 → IsFront line odd
    → 48 ∷ 46 ∷ take 22 (drop 4 line) ≡ (sign_at (take (26 - (2 - odd)) (drop (2 - odd) line))).1
front_digits [] odd long small is = absurd (omega (arith, long))
front_digits (a ∷ []) odd long small is = absurd (omega (arith, long))
front_digits (a ∷ b ∷ []) odd long small is = absurd (omega (arith, long))
front_digits (a ∷ b ∷ c ∷ []) odd long small is = absurd (omega (arith, long))
front_digits (a ∷ b ∷ c ∷ d ∷ rest) zero long small is = rw (is.digit, is.point) refl
front_digits (a ∷ b ∷ c ∷ d ∷ rest) (suc zero) long small is = rw (is.sign, is.digit, is.point) refl
front_digits (a ∷ b ∷ c ∷ d ∷ rest) (suc (suc odd)) long small is = absurd (omega (arith, small))
