-- The store of the blocks that are read: the whole ones, and after them the numbers of the one that was begun.
use Rattle.std.specs.Prelude.{◌≡◌, ℕ, List, [], ◌∷◌, ◌++◌, take, Option, None, Some, ℤ}
use Rattle.spec_text.specs.declared.decimals.Decimal.{Decimal}
use Rattle.spec_intervals.specs.Interval.{IsDistance}
use Rattle.spec_ephemeris.specs.declared.granule.Rounded.{Rounded}
use Rattle.spec_ephemeris.specs.Ephemeris.{Ephemeris, with_block}
use Rattle.spec_ephemeris.specs.Rounding.{pair_of}
use Rattle.eph_model.specs.Starting.{starting_at}

-- the ephemeris of the whole blocks, and the numbers of the block after them
pub record Store : Type 0 where
  pub accepted : Ephemeris
  pub numbers : List Decimal

-- one number more of the block that was begun
abbrev pub with_number : Store → Decimal → Store
with_number s d = record { accepted = s.accepted; numbers = s.numbers ++ d ∷ [] }

-- the first numbers alone of the block that was begun
abbrev pub cut_to : ℕ → Store → Store
cut_to count s = record { accepted = s.accepted; numbers = take count s.numbers }

-- the block that was begun is one of the whole ones
abbrev pub closed : Store → Store
closed s = record { accepted = with_block s.accepted s.numbers; numbers = [] }

-- the same, where the first block begins at this time
abbrev pub store_starting_at : Store → ℤ → Store
store_starting_at s start = record { accepted = starting_at s.accepted start; numbers = s.numbers }

-- a number rounded, where it is below 2^36 in size
abbrev pub IsRounded : Decimal → Option Rounded → Type 0
IsRounded d None = IsDistance d.mant d.exp → ⊥
IsRounded d (Some p) = IsDistance d.mant d.exp × (p ≡ pair_of d)
