-- A list that another begins with, by its length.
use Rattle.std.proofs.Common.{◌≡◌, ℕ, ◌≤◌, List, length, take, sym, ap, arith}
use Rattle.std.proofs.lemmas.List.{length-take-le, take_all}

pub prefix_all : (xs : List ℕ) → xs ≡ take (length xs) xs
prefix_all xs = sym (take_all (length xs) xs (omega arith))

pub prefix_take : (xs : List ℕ) (n : ℕ) → n ≤ length xs → take n xs ≡ take (length (take n xs)) xs
prefix_take xs n within = ap (λ (k : ℕ). take k xs) (sym (length-take-le n xs within))
