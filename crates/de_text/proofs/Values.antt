-- The number that digits write, and its cap.
use Rattle.std.proofs.Common.{◌≡◌, ℕ, zero, suc, ◌+◌, ◌-◌, ◌*◌, ◌^◌, ◌<◌, ◌≤◌, min, List, [], ◌∷◌, ◌++◌, length, get_or, drop, refl, sym, ap, ◌∙◌, inl, inr, arith}
use Rattle.std.proofs.lemmas.List.{at_drop_more}
use Rattle.std.proofs.lemmas.Bool.{cases_lt}
use Rattle.spec_text.specs.Decimals.{IsDigit, AreDigits, value_after, value}

pub digit_at : (bs : List ℕ) (i : ℕ) → AreDigits bs → i < length bs → IsDigit (get_or bs i 0)
digit_at [] i are below = absurd (omega arith)
digit_at (b ∷ bs) zero are below = are.0
digit_at (b ∷ bs) (suc i) are below = digit_at bs i are.1 (omega arith)

pub value_after_ge : (n : ℕ) (bs : List ℕ) → n ≤ value_after n bs
value_after_ge n [] = omega arith
value_after_ge n (b ∷ bs) = omega (arith, value_after_ge (10 * n + (b - 48)) bs)

pub value_after_append : (n : ℕ) (bs cs : List ℕ) → value_after n (bs ++ cs) ≡ value_after (value_after n bs) cs
value_after_append n [] cs = refl
value_after_append n (b ∷ bs) cs = value_after_append (10 * n + (b - 48)) bs cs

-- a number that is capped on the way is capped at the end
pub capped_early : (n cap : ℕ) (bs : List ℕ) → min (value_after (min n cap) bs) cap ≡ min (value_after n bs) cap
capped_early n cap bs = elim (cases_lt n cap) [
  | inl less ↦ let same : min n cap ≡ n = omega arith in ap (λ (k : ℕ). min (value_after k bs) cap) same
  | inr more ↦ let same : min n cap ≡ cap = omega arith in
      ap (λ (k : ℕ). min (value_after k bs) cap) same ∙ omega (arith, value_after_ge cap bs, value_after_ge n bs)
]

pub capped_more : (n m cap i : ℕ) (bs : List ℕ) → i < length bs → m ≡ min (10 * n + (get_or bs i 0 - 48)) cap
    → min (value_after m (drop (i + 1) bs)) cap ≡ min (value_after n (drop i bs)) cap
capped_more n m cap i bs below is =
    ap (λ (k : ℕ). min (value_after k (drop (i + 1) bs)) cap) is
    ∙ capped_early (10 * n + (get_or bs i 0 - 48)) cap (drop (i + 1) bs)
    ∙ ap (λ (k : ℕ). min k cap) (sym (at_drop_more (value_after n) bs i 0 below))

-- two lists of digits, one after the other
pub capped_both : (first both : ℕ) (xs ys : List ℕ) → first ≡ min (value xs) (10 ^ 18) → both ≡ min (value_after first ys) (10 ^ 18)
    → both ≡ min (value (xs ++ ys)) (10 ^ 18)
capped_both first both xs ys first_is both_is =
    both_is ∙ ap (λ (k : ℕ). min (value_after k ys) (10 ^ 18)) first_is ∙ capped_early (value xs) (10 ^ 18) ys
    ∙ ap (λ (k : ℕ). min k (10 ^ 18)) (sym (value_after_append 0 xs ys))
