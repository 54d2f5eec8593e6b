-- The seconds of the granules of columns, by which positions in them are divided.
use Rattle.std.specs.Prelude.{◌≡◌, ℕ, ◌<◌, List, length, slice_index_or}
use Rattle.spec_ephemeris.specs.Ephemeris.{Ephemeris}
use Rattle.body_states.specs.declared.sources.TheConstants.{KEPT_COLUMNS}
use Rattle.spec_ephemeris.specs.Granules.{column_of, granule_length}

-- every granule of a column takes as long
abbrev pub granule_seconds : Ephemeris → ℕ → ℕ
granule_seconds e number = granule_length e (column_of e number)

-- at each place, as far as dividers are kept, the divider is that of the column there
abbrev pub AreDividers : Ephemeris → List ℕ → List ℕ → Type 0
AreDividers e numbers dividers = (place : ℕ) → place < length numbers → place < KEPT_COLUMNS
    → slice_index_or dividers place 0 ≡ granule_seconds e (slice_index_or numbers place 0)
