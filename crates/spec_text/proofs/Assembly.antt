-- Two lists of digits, one after the other.
use Rattle.std.proofs.Common.{ℕ, List, [], ◌∷◌, ◌++◌}
use Rattle.spec_text.specs.Decimals.{AreDigits}

pub digits_append : (xs ys : List ℕ) → AreDigits xs → AreDigits ys → AreDigits (xs ++ ys)
digits_append [] ys xs_are ys_are = ys_are
digits_append (x ∷ xs) ys xs_are ys_are = (xs_are.0, digits_append xs ys xs_are.1 ys_are)
