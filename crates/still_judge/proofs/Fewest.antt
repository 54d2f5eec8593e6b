-- The fewest halvings that bring a width down to another, one fewer at a time.
use Rattle.std.proofs.Common.{◌≡◌, ◌-◌, ◌*◌, ◌^◌, ◌≤◌, ℕ, zero, suc, true, false, nat_le, refl, arith}
use Rattle.spec_stills.specs.Weights.{fewest_halvings}

module _ (m w : ℕ) where
  -- none are fewer than none
  pub none_fewer : (most : ℕ) → (1 ≤ most → ⊥) → 0 ≡ fewest_halvings m w most
  none_fewer zero never = refl
  none_fewer (suc k) never = absurd (never (omega arith))

  -- where one fewer do, the fewest are among these
  fewer_by : (most k : ℕ) → most ≡ suc k → nat_le w (2 ^ k * m) ≡ true → fewest_halvings m w k ≡ fewest_halvings m w most
  fewer_by most k is enough = rw (is, enough) refl

  pub fewer_do : (most k : ℕ) → 1 ≤ most → k ≡ most - 1 → nat_le w (2 ^ k * m) ≡ true → fewest_halvings m w k ≡ fewest_halvings m w most
  fewer_do most k some is enough = fewer_by most k (omega (arith, some, is)) enough

  -- and else it takes all of them
  all_by : (most k : ℕ) → most ≡ suc k → nat_le w (2 ^ k * m) ≡ false → most ≡ fewest_halvings m w most
  all_by most k is fail = rw (is, fail) refl

  pub all_needed : (most k : ℕ) → 1 ≤ most → k ≡ most - 1 → nat_le w (2 ^ k * m) ≡ false → most ≡ fewest_halvings m w most
  all_needed most k some is fail = all_by most k (omega (arith, some, is)) fail
