-- Lists that are written entry by entry.
use Rattle.std.proofs.Common.{◌≡◌, ℕ, suc, ◌+◌, ◌<◌, ◌≤◌, ◌⊎◌, inl, inr, arith, sym, subst, List, length, slice_index_or, slice_set, take}
use Rattle.std.specs.Prelude.{All}
use Rattle.std.proofs.lemmas.List.{get_or-set_same, get_or-set_other, take_more_set}
use Rattle.std.proofs.lemmas.List.Elements.{All-push}
use Rattle.std.proofs.lemmas.Bool.{cases_lt}

module _ {A : Type 0} (none : A) (P : ℕ → A → Type 0) (n : ℕ) (xs : List A) (made : A) where
  -- one entry more
  pub one_more : n < length xs → ((k : ℕ) → k < n → P k (slice_index_or xs k none)) → P n made → (k : ℕ) → k < n + 1 → P k (slice_index_or (slice_set xs n made) k none)
  one_more below first is k h = by (cases_lt k n)
    where
      by : (k < n) ⊎ (n ≤ k) → P k (slice_index_or (slice_set xs n made) k none)
      by (inl before) = subst (P k) (sym (get_or-set_other xs n k made none (λ same. absurd (omega (arith, before, same))))) (first k before)
      by (inr after) =
          let same : n ≡ k = omega (arith, after, h) in
          subst (λ (j : ℕ). P j (slice_index_or (slice_set xs n made) j none)) same (subst (P n) (sym (get_or-set_same xs n made none below)) is)

  -- where an entry is replaced, those before it stay
  pub before_stay : (m : ℕ) → m ≤ n → ((k : ℕ) → k < n → P k (slice_index_or xs k none)) → (k : ℕ) → k < m → P k (slice_index_or (slice_set xs n made) k none)
  before_stay m few first k h = subst (P k) (sym (get_or-set_other xs n k made none (λ same. absurd (omega (arith, few, h, same))))) (first k (omega (arith, few, h)))

  -- one entry more before the last ones
  pub one_before : (low from upto : ℕ) → n < length xs → low ≡ n → from ≡ suc n → ((k : ℕ) → from ≤ k → k < upto → P k (slice_index_or xs k none)) → P n made
      → (k : ℕ) → low ≤ k → k < upto → P k (slice_index_or (slice_set xs n made) k none)
  one_before low from upto below own next last is k after before = by (cases_lt n k)
    where
      by : (n < k) ⊎ (k ≤ n) → P k (slice_index_or (slice_set xs n made) k none)
      by (inl later) = subst (P k) (sym (get_or-set_other xs n k made none (λ same. absurd (omega (arith, later, same))))) (last k (omega (arith, later, next)) before)
      by (inr h) =
          let same : n ≡ k = omega (arith, h, own, after) in
          subst (λ (j : ℕ). P j (slice_index_or (slice_set xs n made) j none)) same (subst (P n) (sym (get_or-set_same xs n made none below)) is)

-- ---- lists of which the first entries are made
module _ {A : Type 0} (P : A → Type 0) (n : ℕ) (xs : List A) (made : All P (take n xs)) where
  pub one_more_made : n < length xs → (x : A) → P x → All P (take (n + 1) (slice_set xs n x))
  one_more_made below x is = rw (take_more_set xs n x below) (All-push P (take n xs) x made is)
