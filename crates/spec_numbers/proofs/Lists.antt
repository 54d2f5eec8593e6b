-- Lists and their items.
use Rattle.std.proofs.Common.{◌≡◌, ℕ, zero, suc, ◌<◌, List, [], ◌∷◌, take, refl, arith}
use Rattle.std.specs.Prelude.{slice_get}

pub get_take : {X : Type 0} (xs : List X) (n i : ℕ) → i < n → slice_get (take n xs) i ≡ slice_get xs i
get_take xs zero i below = absurd (omega arith)
get_take [] (suc n) i below = refl
get_take (x ∷ xs) (suc n) zero below = refl
get_take (x ∷ xs) (suc n) (suc i) below = get_take xs n i (omega arith)
