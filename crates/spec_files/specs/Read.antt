-- What is known of the numbers of a block that meet their rules.
use Rattle.std.specs.Prelude.{◌≡◌, ℕ, List, take, slice_get, Some, Ok}
use Rattle.spec_text.specs.declared.decimals.Decimal.{Decimal}
use Rattle.spec_ephemeris.specs.Ephemeris.{Ephemeris}
use Rattle.spec_ephemeris.specs.Series.{IsInUnits}
use Rattle.spec_files.specs.BlockRules.{value_rule}

-- each of the numbers meets its rule after the numbers before it, in a block after these blocks
pub record AreRead (before : Ephemeris) (numbers : List Decimal) : Type 0 where
  pub rules : (place : ℕ) (d : Decimal) → slice_get numbers place ≡ Some d → value_rule before (take place numbers) d ≡ Ok tt
  pub in_units : (place : ℕ) (d : Decimal) → slice_get numbers place ≡ Some d → IsInUnits d
