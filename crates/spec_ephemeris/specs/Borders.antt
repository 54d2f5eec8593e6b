-- The border of columns that is nearest to the middle of a span, as a function.
-- A border of a column is the start of any of its granules but the first. Times are seconds or ticks since J2000 in TDB.
use Rattle.std.specs.Prelude.{ℕ, zero, suc, ◌-◌, ◌*◌, nat_lt, ◌==◌, Bool, ◌&&◌, ◌||◌, if◌then◌else◌, List, [], ◌∷◌, Option, None, Some, ℤ, pos, ◌+ℤ◌, int_lt, int_le}
use Rattle.spec_ephemeris.specs.declared.header.Column.{Column}
use Rattle.spec_ephemeris.specs.Ephemeris.{Ephemeris, off_middle}
use Rattle.spec_ephemeris.specs.Granules.{column_of, granule_length}

-- whether t is nearer to the middle of a and b than s, or as near and no later
abbrev pub is_preferred : ℤ → ℤ → ℤ → ℤ → Bool
is_preferred a b t s = nat_lt (off_middle a b t) (off_middle a b s) || ((off_middle a b t == off_middle a b s) && int_le t s)

-- of two times that may be there the one that is preferred
abbrev pub preferred : ℤ → ℤ → Option ℤ → Option ℤ → Option ℤ
preferred a b None other = other
preferred a b (Some t) None = Some t
preferred a b (Some t) (Some s) = if is_preferred a b t s then Some t else Some s

-- a time, where it lies in (a, b]
abbrev pub time_in : ℤ → ℤ → ℤ → Option ℤ
time_in a b t = if int_lt a t && int_le t b then Some t else None

-- the time at which the granule begins that is counted from 0 over all blocks
abbrev pub granule_start : Ephemeris → Column → ℕ → ℤ
granule_start e c index = e.start +ℤ pos (index * granule_length e c)

-- of the first borders of a column, so many, the nearest in (a, b]
abbrev pub nearest_of : Ephemeris → Column → ℤ → ℤ → ℕ → Option ℤ
nearest_of e c a b zero = None
nearest_of e c a b (suc count) = preferred a b (nearest_of e c a b count) (time_in a b (granule_start e c (suc count)))

-- a column has a border less than it has granules
abbrev pub border_count : Ephemeris → Column → ℕ
border_count e c = e.blocks * c.granules - 1

-- of all borders of a column the nearest in (a, b]
unfoldable pub nearest_of_column : Ephemeris → ℕ → ℤ → ℤ → Option ℤ
nearest_of_column e number a b = nearest_of e (column_of e number) a b (border_count e (column_of e number))

-- of the borders of the columns in (a, b] the one that is nearest to the middle of a and b, the smaller of two
unfoldable pub nearest_border : Ephemeris → List ℕ → ℤ → ℤ → Option ℤ
nearest_border e [] a b = None
nearest_border e (number ∷ numbers) a b = preferred a b (nearest_of_column e number a b) (nearest_border e numbers a b)
