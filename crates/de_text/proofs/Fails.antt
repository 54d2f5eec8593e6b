-- A test that does not hold.
use Rattle.std.proofs.Common.{◌≡◌, Bool, true, false, inl, inr}
use Rattle.std.proofs.lemmas.Bool.{cases_Bool}

pub fails : (b : Bool) → (b ≡ true → ⊥) → b ≡ false
fails b other = elim (cases_Bool b) [ inl holds ↦ absurd (other holds) | inr not ↦ not ]
