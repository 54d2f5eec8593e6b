-- The order of the integers under sums and products.
use Rattle.std.proofs.Common.{◌≡◌, ℕ, zero, suc, ◌*◌, ◌<◌, ◌⊎◌, arith, refl, ap, ◌∙◌, [], ◌∷◌, ℤ, pos, negsuc, ◌-ℤ◌, ◌*ℤ◌, neg_ℤ, ◌≤ℤ◌, ◌<ℤ◌}
use Rattle.std.proofs.lemmas.Int.{ints, clamps, by_lt_z}
use Rattle.std.specs.Int.{int_min, int_max}
use borrow.Author.Differences.{fits_out, same_out, Apart-out, lt_T, le_T, lt_not, le_not, lt-true, lt-false, le-true, le-false, true-lt, false-lt, true-le, false-le, not_negative_out, lt_out, le_out, fits_in, same_in, lt_in, le_in, below_in, at_most_in, not_negative_in, true_is_lt, false_is_lt, true_is_le, false_is_le, sum_is_lem, neg_is, abs_is, mag_is}
use Rattle.spec_numbers.proofs.Whole.{nonneg-mul}
use Rattle.spec_numbers.proofs.Ring.{v, ◌⊖◌, ◌⊗◌, minus, ring}

-- linear arithmetic over the integers, a product as an unknown
pub ruleset lin = (fits_out, same_out, Apart-out, lt_T, le_T, lt_not, le_not, lt-true, lt-false, le-true, le-false, true-lt, false-lt, true-le, false-le, not_negative_out, lt_out, le_out, fits_in, same_in, lt_in, le_in, below_in, at_most_in, not_negative_in, true_is_lt, false_is_lt, true_is_le, false_is_le, sum_is_lem, neg_is, abs_is, mag_is)

pub natural : (n : ℕ) → pos 0 ≤ℤ pos n
natural n = omega (arith, lin)

pub le_by : (a b d : ℤ) → b -ℤ a ≡ d → pos 0 ≤ℤ d → a ≤ℤ b
le_by a b d e h = omega (arith, lin)

pub le-mul : (a b c : ℤ) → pos 0 ≤ℤ c → a ≤ℤ b → (a *ℤ c) ≤ℤ (b *ℤ c)
le-mul a b c h q =
    let e : b *ℤ c -ℤ a *ℤ c ≡ (b -ℤ a) *ℤ c = ring (a ∷ b ∷ c ∷ []) (v 1 ⊗ v 2 ⊖ v 0 ⊗ v 2) ((v 1 ⊖ v 0) ⊗ v 2) tt in
    le_by (a *ℤ c) (b *ℤ c) ((b -ℤ a) *ℤ c) e (nonneg-mul (b -ℤ a) c (omega (arith, lin)) h)

-- a product falls with its first factor where the second is at most 0
pub le-mul_neg : (a b c : ℤ) → c ≤ℤ pos 0 → a ≤ℤ b → (b *ℤ c) ≤ℤ (a *ℤ c)
le-mul_neg a b c h q =
    let p : (a *ℤ neg_ℤ c) ≤ℤ (b *ℤ neg_ℤ c) = le-mul a b (neg_ℤ c) (omega (arith, lin)) q in
    let e : a *ℤ neg_ℤ c ≡ neg_ℤ (a *ℤ c) = ring (a ∷ c ∷ []) (v 0 ⊗ minus (v 1)) (minus (v 0 ⊗ v 1)) tt in
    let f : b *ℤ neg_ℤ c ≡ neg_ℤ (b *ℤ c) = ring (b ∷ c ∷ []) (v 0 ⊗ minus (v 1)) (minus (v 0 ⊗ v 1)) tt in
    omega (arith, lin)

pub le-mul_cancel : (a b : ℤ) (c : ℕ) → 0 < c → (a *ℤ pos c) ≤ℤ (b *ℤ pos c) → a ≤ℤ b
le-mul_cancel a b c h q = by (a -ℤ b) refl
  where
    by : (d : ℤ) → a -ℤ b ≡ d → a ≤ℤ b
    by (pos zero) e = omega (arith, lin)
    by (negsuc n) e = omega (arith, lin)
    by (pos (suc n)) e =
        let p : a *ℤ pos c -ℤ b *ℤ pos c ≡ (a -ℤ b) *ℤ pos c = ring (a ∷ b ∷ pos c ∷ []) (v 0 ⊗ v 2 ⊖ v 1 ⊗ v 2) ((v 0 ⊖ v 1) ⊗ v 2) tt in
        let r : a *ℤ pos c -ℤ b *ℤ pos c ≡ pos (suc n * c) = p ∙ ap (λ x. x *ℤ pos c) e in
        absurd (omega (arith, lin, h))

pub lt-mul_cancel : (a b : ℤ) (d : ℕ) → (a *ℤ pos d) <ℤ (b *ℤ pos d) → a <ℤ b
lt-mul_cancel a b d h = by_lt_z a b (λ p. p) (λ q. let g : (b *ℤ pos d) ≤ℤ (a *ℤ pos d) = le-mul b a (pos d) (omega (arith, lin)) q in absurd (omega (arith, lin)))

pub nonneg-square : (a : ℤ) → pos 0 ≤ℤ (a *ℤ a)
nonneg-square (pos n) = omega (arith, ints)
nonneg-square (negsuc n) = omega (arith, ints)

-- ---- the lesser and the greater of two
pub min_is : (p q : ℤ) → (int_min p q ≡ p) ⊎ (int_min p q ≡ q)
min_is p q = grind (arith, ints)

pub max_is : (p q : ℤ) → (int_max p q ≡ p) ⊎ (int_max p q ≡ q)
max_is p q = grind (arith, ints)

pub min_first : (p q : ℤ) → int_min p q ≤ℤ p
min_first p q = omega (arith, ints, clamps)

pub min_second : (p q : ℤ) → int_min p q ≤ℤ q
min_second p q = omega (arith, ints, clamps)
