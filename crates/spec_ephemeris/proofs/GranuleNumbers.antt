-- A granule's numbers stand within its block, and those of a body are bounded.
use Rattle.std.proofs.Common.{◌≡◌, ℕ, zero, suc, ◌+◌, ◌-◌, ◌*◌, ◌<◌, ◌≤◌, List, [], ◌∷◌, length, take, drop, slice_index_or, Some, refl, arith, ◌∙◌, length-take-le, length-drop, get_or-take, get_or-drop}
use Rattle.std.specs.Prelude.{All, slice_get}
use Rattle.spec_numbers.proofs.Naturals.{row_fits}
use Rattle.spec_text.specs.declared.decimals.Decimal.{Decimal}
use Rattle.spec_ephemeris.specs.declared.header.Column.{Column}
use Rattle.spec_ephemeris.specs.declared.header.Header.{Header}
use Rattle.spec_ephemeris.specs.declared.limits.TheConstants.{BODY_COLUMNS}
use Rattle.spec_ephemeris.specs.Header.{IsHeader, IsColumn, Takes, granule_size}
use Rattle.spec_ephemeris.specs.Ephemeris.{Ephemeris, IsEphemeris, IsBodyNumber, block_numbers, granule_numbers}

-- the run of a list from `first` on lies within it
length_of_run : {X : Type 0} (xs : List X) (first size : ℕ) → first + size ≤ length xs → length (take size (drop first xs)) ≡ size
length_of_run xs first size fits = length-take-le size (drop first xs) (rw (length-drop first xs) (omega (arith, fits)))

get_some : {X : Type 0} (xs : List X) (i : ℕ) (d : X) → i < length xs → slice_get xs i ≡ Some (slice_index_or xs i d)
get_some [] i d below = absurd (omega (arith, below))
get_some (x ∷ xs) zero d below = refl
get_some (x ∷ xs) (suc i) d below = get_some xs i d (omega (arith, below))

-- a block has as many numbers as the header says
pub block_length : (e : Ephemeris) (block : ℕ) → IsEphemeris e → block < e.blocks → length (block_numbers e block) ≡ e.header.ncoeff
block_length e block checked below =
    let fits : block * e.header.ncoeff + e.header.ncoeff ≤ e.blocks * e.header.ncoeff = row_fits block e.blocks e.header.ncoeff below in
    length_of_run e.numbers (block * e.header.ncoeff) e.header.ncoeff (omega (arith, fits, checked.whole))

-- the granules of a column end where the column does
pub run_fits : (h : Header) (number : ℕ) (c : Column) (inner : ℕ) → IsHeader h → IsColumn h number c → inner < c.granules
    → (c.start - 1 + inner * granule_size number c) + granule_size number c ≤ h.ncoeff
run_fits h number c inner header is below =
    let rules = header.columns number c is in
    let fits : inner * granule_size number c + granule_size number c ≤ c.granules * granule_size number c = row_fits inner c.granules (granule_size number c) below in
    omega (arith, rules.start, rules.last, fits)

pub numbers_count : (e : Ephemeris) (number : ℕ) (c : Column) (block inner : ℕ) → IsEphemeris e → IsColumn e.header number c
    → block < e.blocks → inner < c.granules → length (granule_numbers number c inner (block_numbers e block)) ≡ granule_size number c
numbers_count e number c block inner checked is of_ephemeris of_block =
    let whole = block_length e block checked of_ephemeris in
    let fits = run_fits e.header number c inner checked.header is of_block in
    length_of_run (block_numbers e block) (c.start - 1 + inner * granule_size number c) (granule_size number c) (omega (arith, whole, fits))

-- the place of a number of a granule is one of its column's
place_taken : (e : Ephemeris) (number : ℕ) (c : Column) (inner k : ℕ) → IsEphemeris e → IsColumn e.header number c → inner < c.granules
    → k < granule_size number c → Takes number c (suc (c.start - 1 + inner * granule_size number c + k))
place_taken e number c inner k checked is of_block below =
    let rules = checked.header.columns number c is in
    let size : ℕ = granule_size number c in
    let fits : inner * size + size ≤ c.granules * size = row_fits inner c.granules size of_block in
    record { from = omega (arith, rules.start); before = omega (arith, rules.start, fits, below) }

-- the numbers of a body's granule are bounded
pub numbers_bounded : (e : Ephemeris) (number : ℕ) (c : Column) (block inner : ℕ) → IsEphemeris e → IsColumn e.header number c
    → block < e.blocks → inner < c.granules → number ≤ BODY_COLUMNS → All IsBodyNumber (granule_numbers number c inner (block_numbers e block))
numbers_bounded e number c block inner checked is of_ephemeris of_block body = λ k d within.
    let size : ℕ = granule_size number c in
    let first : ℕ = c.start - 1 + inner * size in
    let numbers : List Decimal = block_numbers e block in
    let count = numbers_count e number c block inner checked is of_ephemeris of_block in
    let below : k < size = omega (arith, within, count) in
    let whole = block_length e block checked of_ephemeris in
    let fits = run_fits e.header number c inner checked.header is of_block in
    let there : slice_get numbers (first + k) ≡ Some (slice_index_or numbers (first + k) d) = get_some numbers (first + k) d (omega (arith, whole, fits, below)) in
    let same : slice_index_or (take size (drop first numbers)) k d ≡ slice_index_or numbers (first + k) d = get_or-take size (drop first numbers) k d below ∙ get_or-drop first numbers k d in
    rw same (checked.bodies block of_ephemeris number (first + k) c _ is body (place_taken e number c inner k checked is of_block below) there)
