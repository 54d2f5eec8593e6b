-- On which side of a time another lies.
use Rattle.std.proofs.Common.{◌≡◌, ◌⊎◌, ℤ, ◌≤ℤ◌, ◌<ℤ◌, arith}
use Rattle.std.proofs.lemmas.Int.{ints}

pub upto_or_after : (t m : ℤ) → (t ≤ℤ m) ⊎ (m <ℤ t)
upto_or_after t m = grind (arith, ints)

pub before_after_or_at : (t m : ℤ) → (t <ℤ m) ⊎ ((m <ℤ t) ⊎ (t ≡ m))
before_after_or_at t m = grind (arith, ints)
