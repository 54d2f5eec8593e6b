-- The granules of a grid are those of its column.
use Rattle.std.proofs.Common.{◌≡◌, ℕ, ◌-◌, ◌*◌, ◌/◌, ◌%◌, ◌<◌, ◌≤◌, min, ℤ, pos, ◌+ℤ◌, ◌-ℤ◌, ◌^◌, unsigned_abs, to_z, w64, refl, ap, sym, ◌∙◌, arith}
use Rattle.std.proofs.lemmas.Nat.{div_below}
use Rattle.std.proofs.Math.Nat.{mul-div_cancel}
use Rattle.std.proofs.lemmas.Int.{ints}
use Rattle.spec_ephemeris.specs.declared.header.Column.{Column}
use Rattle.spec_ephemeris.specs.Series.{to_nat}
use Rattle.spec_ephemeris.specs.Ephemeris.{Ephemeris, Granule, granule_numbers, block_numbers, end_of}
use Rattle.spec_ephemeris.specs.Granules.{column_or_none, column_of, granule_length, granule_index, granule_of_index, granule_at}
use Rattle.spec_ephemeris.specs.Borders.{granule_start}
use Rattle.spec_ephemeris.proofs.Granules.{granules_end}
use Rattle.eph_model.specs.declared.grid.Grid.{Grid}
use Rattle.eph_model.specs.Grids.{IsGridOf}

-- a grid ends where the ephemeris does
pub ends : (e : Ephemeris) (number : ℕ) (g : Grid) → IsGridOf e number g → end_of e ≡ g.start +ℤ pos (g.count * g.seconds)
ends e number g is = rw (is.start, is.count) (granules_end e g.seconds g.column.granules is.shares)

-- the column of the grid, and the length of its granules, are those of the number
pub column_is : (e : Ephemeris) (number : ℕ) (g : Grid) → IsGridOf e number g → g.column ≡ column_of e number
column_is e number g is = sym (ap column_or_none is.column.listed)

pub length_is : (e : Ephemeris) (number : ℕ) (g : Grid) → IsGridOf e number g → g.seconds ≡ granule_length e g.column
length_is e number g is =
    let quotient : g.seconds * g.column.granules / g.column.granules ≡ g.seconds = mul-div_cancel g.seconds g.shared in
    rw is.shares (sym quotient)

pub starts_at : (e : Ephemeris) (number : ℕ) (g : Grid) (index : ℕ) → IsGridOf e number g → g.start +ℤ pos (index * g.seconds) ≡ granule_start e (column_of e number) index
starts_at e number g index is =
    (λ i. is.start i +ℤ pos (index * length_is e number g is i)) ∙ (λ i. granule_start e (column_is e number g is i) index)

pub count_is : (e : Ephemeris) (number : ℕ) (g : Grid) → IsGridOf e number g → g.count ≡ e.blocks * (column_of e number).granules
count_is e number g is = is.count ∙ (λ i. e.blocks * (column_is e number g is i).granules)

-- the block of an index
pub block_of : (e : Ephemeris) (number : ℕ) (g : Grid) (index : ℕ) → IsGridOf e number g → index < g.count → index / g.column.granules < e.blocks
block_of e number g index is below = div_below index g.column.granules e.blocks g.shared (omega (arith, below, is.count))

-- the granule of an index, as the code reads it
of_column : (e : Ephemeris) (number : ℕ) (index : ℕ) (c : Column) (r : Granule)
    → r.start ≡ e.start +ℤ pos (index * granule_length e c) → r.duration ≡ granule_length e c
    → r.coefs ≡ granule_numbers number c (index % c.granules) (block_numbers e (index / c.granules))
    → r ≡ granule_of_index e number c index
of_column e number index c r start duration coefs = λ i. record { start = start i; duration = duration i; coefs = coefs i }

-- the granule of a time, as the code finds it
pub found : (e : Ephemeris) (number : ℕ) (t : ℤ) (g : Grid) (index : ℕ) (r : Granule) → IsGridOf e number g
    → index ≡ min (to_nat (t -ℤ g.start) / g.seconds) (g.count - 1)
    → r.start ≡ g.start +ℤ pos (index * g.seconds) → r.duration ≡ g.seconds
    → r.coefs ≡ granule_numbers number g.column (index % g.column.granules) (block_numbers e (index / g.column.granules))
    → r ≡ granule_at e number t
found e number t g index r is divided start duration coefs =
    let length : g.seconds ≡ granule_length e g.column = length_is e number g is in
    let starts : r.start ≡ e.start +ℤ pos (index * granule_length e g.column) = start ∙ (λ i. is.start i +ℤ pos (index * length i)) in
    let at : index ≡ granule_index e g.column t = divided ∙ (λ i. min (to_nat (t -ℤ is.start i) / length i) (is.count i - 1)) in
    let one : r ≡ granule_of_index e number g.column index = of_column e number index g.column r starts (duration ∙ length) coefs in
    let column : g.column ≡ column_of e number = column_is e number g is in
    one ∙ (ap (granule_of_index e number g.column) at ∙ (λ i. granule_of_index e number (column i) (granule_index e (column i) t)))

pub length_passed : (seconds : ℕ) → seconds ≤ 2 ^ 40 → unsigned_abs (to_z w64 seconds) ≡ seconds
length_passed seconds short = let same : to_z w64 seconds ≡ pos seconds = omega (arith, ints, short) in rw same refl
