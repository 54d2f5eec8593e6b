-- The digits at the front of a list, step by step.
use Rattle.std.proofs.Common.{◌≡◌, ℕ, ◌+◌, ◌-◌, ◌*◌, ◌<◌, ◌≤◌, min, arith, List, [], ◌∷◌, true, false, length, get_or, drop, refl, sym, ap, ◌∙◌}
use Rattle.std.specs.Char.{is_ascii_digit}
use Rattle.std.proofs.lemmas.List.{at_drop_more, drop_all, drop_more}
use Rattle.spec_text.specs.Decimals.{value_after}
use Rattle.spec_text.specs.Splitting.{digits_at}
use Rattle.de_text.proofs.Values.{value_after_ge}

pub digits_more : (bs : List ℕ) (i : ℕ) → i < length bs → is_ascii_digit (get_or bs i 0) ≡ true
    → digits_at (drop i bs) ≡ (get_or bs i 0 ∷ (digits_at (drop (i + 1) bs)).0, (digits_at (drop (i + 1) bs)).1)
digits_more bs i below digit = at_drop_more digits_at bs i 0 below ∙ rw digit refl

pub digits_end : (bs : List ℕ) (i : ℕ) → i < length bs → is_ascii_digit (get_or bs i 0) ≡ false
    → digits_at (drop i bs) ≡ ([], drop i bs)
digits_end bs i below other =
    at_drop_more digits_at bs i 0 below ∙ rw other (ap (λ (l : List ℕ). ([], l)) (sym (drop_more bs i 0 below)))

-- the number after a digit more
pub value_step : (n : ℕ) (bs : List ℕ) (i : ℕ) → i < length bs → is_ascii_digit (get_or bs i 0) ≡ true
    → value_after (10 * n + (get_or bs i 0 - 48)) (digits_at (drop (i + 1) bs)).0 ≡ value_after n (digits_at (drop i bs)).0
value_step n bs i below digit = ap (λ (p : List ℕ × List ℕ). value_after n p.0) (sym (digits_more bs i below digit))

-- the number after which digits are left, once it has reached the cap
pub value_many : (start n cap : ℕ) (bs ds : List ℕ) → cap ≤ n → value_after n ds ≡ value_after start bs → cap ≡ min (value_after start bs) cap
value_many start n cap bs ds large same = omega (arith, large, value_after_ge n ds, same)

-- past the end no digit stands
pub digits_none : (bs : List ℕ) (i : ℕ) → length bs ≤ i → digits_at (drop i bs) ≡ ([], drop i bs)
digits_none bs i end = ap digits_at (drop_all i bs end) ∙ ap (λ (l : List ℕ). ([], l)) (sym (drop_all i bs end))
