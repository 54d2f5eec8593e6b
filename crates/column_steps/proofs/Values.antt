-- One value more in the slots.
use Rattle.std.proofs.Common.{◌≡◌, ℕ, ◌+◌, ◌<◌, ◌≤◌, ◌⊎◌, inl, inr, arith, sym, subst, List, length, slice_index_or, slice_set}
use Rattle.std.proofs.lemmas.List.{get_or-set_same, get_or-set_other}
use Rattle.std.proofs.lemmas.Bool.{cases_lt}
use Rattle.spec_steps.specs.ColumnTerms.{ColumnTerm}
use Rattle.spec_steps.specs.Steps.{term_at}
use Rattle.column_steps.specs.Values.{AreValues}

pub value_more : {V : Type 0} (is_value : ColumnTerm → V → Type 0) (ts : List ColumnTerm) (n : ℕ) (slots : List V) (x : V) → n < length slots → AreValues is_value ts n slots → is_value (term_at ts n) x
    → AreValues is_value ts (n + 1) (slice_set slots n x)
value_more is_value ts n slots x below are is place h d = by (cases_lt place n)
  where
    by : (place < n) ⊎ (n ≤ place) → is_value (term_at ts place) (slice_index_or (slice_set slots n x) place d)
    by (inl before) = subst (is_value (term_at ts place)) (sym (get_or-set_other slots n place x d (λ same. absurd (omega (arith, before, same))))) (are place before d)
    by (inr after) =
        let same : n ≡ place = omega (arith, after, h) in
        subst (λ (j : ℕ). is_value (term_at ts j) (slice_index_or (slice_set slots n x) j d)) same (subst (is_value (term_at ts n)) (sym (get_or-set_same slots n x d below)) is)
