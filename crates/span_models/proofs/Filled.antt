-- A list that a loop writes, number by number.
use Rattle.std.proofs.Common.{◌≡◌, ◌∙◌, ℕ, ◌+◌, ◌<◌, ◌≤◌, ◌⊎◌, inl, inr, arith, sym, subst, List, length, set, get_or, ℤ, pos, to_z, of_z}
use Rattle.std.proofs.lemmas.Bool.{cases_lt}
use Rattle.std.proofs.lemmas.Int.{to_z-of_z}
use Rattle.std.proofs.lemmas.List.{get_or-set_same, get_or-set_other}
use mir.Syntax.{Width}
use mir.Val.{SFits}

-- what holds of each number that is written holds of the next one too
pub one_more : (P : ℕ → ℤ → Type 0) (w : Width) (xs : List ℤ) (i : ℕ) (z : ℤ) → SFits w z → i < length xs → P i z → ((k : ℕ) → k < i → P k (get_or xs k (pos 0))) → (k : ℕ) → k < i + 1 → P k (get_or (set xs i (to_z w (of_z w z))) k (pos 0))
one_more P w xs i z fits lt new old k below = by (cases_lt k i)
  where
    by : (k < i) ⊎ (i ≤ k) → P k (get_or (set xs i (to_z w (of_z w z))) k (pos 0))
    by (inl before) = subst (P k) (sym (get_or-set_other xs i k (to_z w (of_z w z)) (pos 0) (λ e. omega (arith, e, before)))) (old k before)
    by (inr after) =
        let e : i ≡ k = omega (arith, below, after) in
        subst (λ j. P j (get_or (set xs i (to_z w (of_z w z))) j (pos 0))) e (subst (P i) (sym (get_or-set_same xs i (to_z w (of_z w z)) (pos 0) lt ∙ to_z-of_z w z fits)) new)
