use Rattle.std.proofs.Common.{rules, arith, ℕ, ◌≡◌, ◌≤◌, ◌*◌, pos, ◌+ℤ◌, unsigned_abs, ap, sym, to_z, of_z, FitsSigned, w64, ◌∙◌}
use Rattle.std.proofs.lemmas.Int.{ints, to_z-of_z}
use Rattle.std.proofs.lemmas.Nat.{mul-le}
use Rattle.spec_ephemeris.specs.declared.header.Column.{Column}
use Rattle.spec_ephemeris.specs.Rounding.{pairs_of}
use Rattle.eph_model.proofs.GridLemmas.{block_of, column_is, ends, found, length_passed}
use Rattle.eph_model.proofs.ephemeris.Ephemeris.granule.Goals as goal

pub index_at-index-requires-clause-upto : goal.index_at-index-requires-clause-upto
index_at-index-requires-clause-upto c =
    let last = ends c.args.self.now c.args.column c.grid-grid.result c.grid-grid.ensures.grid in
    rw (← last) (omega (arith, ints, c.requires.upto))

pub granule_pairs-requires-clause-block : goal.granule_pairs-requires-clause-block
granule_pairs-requires-clause-block c =
    rw c.from-granules.ensures (block_of c.args.self.now c.args.column c.grid-grid.result c.index_at-index.result c.grid-grid.ensures.grid c.index_at-index.ensures.in_range)

pub returns-clause-coefficients : goal.returns-clause-coefficients
returns-clause-coefficients c = ap (λ (column : Column). column.coefs) (column_is c.args.self.now c.args.column c.grid-grid.result c.grid-grid.ensures.grid)

pub returns-clause-granule : goal.returns-clause-granule
returns-clause-granule c =
    let grid = c.grid-grid.result in
    let fits : FitsSigned w64 c.granule_start.result = search rules in
    let start : to_z w64 (of_z w64 c.granule_start.result) ≡ grid.start +ℤ pos (c.index_at-index.result * grid.seconds) = to_z-of_z w64 c.granule_start.result fits ∙ c.granule_start.ensures in
    let duration : unsigned_abs (to_z w64 grid.seconds) ≡ grid.seconds = length_passed grid.seconds grid.short in
    let same : to_z w64 (of_z w64 c.args.t) ≡ c.args.t = to_z-of_z w64 c.args.t c.ranges.t in
    found c.args.self.now c.args.column c.args.t grid c.index_at-index.result _ c.grid-grid.ensures.grid
    (rw same at c.index_at-index.ensures.index) start duration (rw c.from-granules.ensures at c.granule_numbers.ensures.numbers)

pub returns-clause-duration : goal.returns-clause-duration
returns-clause-duration c =
    let grid = c.grid-grid.result in
    let short = grid.short in
    (omega (arith, ints, grid.long, short), omega (arith, ints, grid.long, short))

pub returns-clause-start : goal.returns-clause-start
returns-clause-start c =
    let grid = c.grid-grid.result in
    let index : ℕ = c.index_at-index.result in
    let last : index * grid.seconds ≤ grid.count * grid.seconds = mul-le index grid.seconds grid.count grid.seconds (omega (arith, c.index_at-index.ensures.in_range)) (omega arith) in
    let fits : FitsSigned w64 c.granule_start.result = search rules in
    let same : to_z w64 (of_z w64 c.granule_start.result) ≡ c.granule_start.result = to_z-of_z w64 c.granule_start.result fits in
    rw same (omega (arith, ints, c.granule_start.ensures, grid.early, last), omega (arith, ints, c.granule_start.ensures, grid.late, last, grid.within))

pub granule_start-requires : goal.granule_start-requires
granule_start-requires c = omega (arith, c.index_at-index.ensures.in_range)

pub nonzero_div-block : goal.nonzero_div-block
nonzero_div-block c =
    let some = c.grid-grid.result.shared in
    let same = c.from-granules.ensures in
    omega arith

pub nonzero_rem-inner : goal.nonzero_rem-inner
nonzero_rem-inner c =
    let some = c.grid-grid.result.shared in
    let same = c.from-granules.ensures in
    omega arith

pub granule_numbers-requires-clause-inner : goal.granule_numbers-requires-clause-inner
granule_numbers-requires-clause-inner c =
    let some = c.grid-grid.result.shared in
    let same = c.from-granules.ensures in
    omega arith

pub granule_pairs-requires-clause-inner : goal.granule_pairs-requires-clause-inner
granule_pairs-requires-clause-inner c =
    let some = c.grid-grid.result.shared in
    let same = c.from-granules.ensures in
    omega arith

pub granule_numbers-requires-clause-block : goal.granule_numbers-requires-clause-block
granule_numbers-requires-clause-block c =
    rw c.from-granules.ensures (block_of c.args.self.now c.args.column c.grid-grid.result c.index_at-index.result c.grid-grid.ensures.grid c.index_at-index.ensures.in_range)

pub returns-clause-components : goal.returns-clause-components
returns-clause-components c = c.component_count.ensures.value

pub returns-clause-count : goal.returns-clause-count
returns-clause-count c = c.granule_numbers.ensures.count ∙ ap (λ (k : ℕ). k * c.grid-grid.result.column.coefs) (sym c.component_count.ensures.value)

pub returns-clause-bodies : goal.returns-clause-bodies
returns-clause-bodies c = c.granule_numbers.ensures.bodies

pub returns-clause-rounded : goal.returns-clause-rounded
returns-clause-rounded c = c.granule_pairs.ensures ∙ ap (pairs_of c.args.column) (sym c.granule_numbers.ensures.numbers)
