use Rattle.std.proofs.Common.{arith, ◌≡◌, ℕ, List, take, to_z, of_z, w64}
use Rattle.std.proofs.lemmas.Int.{ints, to_z-of_z}
use Rattle.std.proofs.lemmas.List.{take_all}
use Rattle.spec_ephemeris.specs.Ephemeris.{Ephemeris, IsBorderIn}
use Rattle.spec_ephemeris.proofs.Granules.{nearest_once}
use Rattle.spec_ephemeris.proofs.NearestBorders.{nearest_of_all}
use Rattle.eph_model.specs.Grids.{IsGridBorder}
use Rattle.eph_model.proofs.ColumnBorders.{nearest_of_grid, none_yet, one_more, short}
use Rattle.eph_model.proofs.GridLemmas.{ends}
use Rattle.eph_model.proofs.ephemeris.Ephemeris.border_near.Goals as goal

pub loop-column-init : goal.loop-column-init
loop-column-init c = none_yet c.args.self.now _ _

pub nearer_border-nearest-requires-clause-first : goal.nearer_border-nearest-requires-clause-first
nearer_border-nearest-requires-clause-first c =
    let same_a : to_z w64 (of_z w64 c.args.a) ≡ c.args.a = to_z-of_z w64 c.args.a c.ranges.a in
    let same_b : to_z w64 (of_z w64 c.args.b) ≡ c.args.b = to_z-of_z w64 c.args.b c.ranges.b in
    rw (same_a, same_b)
    (short (IsBorderIn c.args.self.now (take c.loop-column.column-index c.args.columns.now) c.args.a c.args.b) c.args.self.now _ c.grid.result c.args.a c.args.b
    c.loop-column.nearest c.grid.ensures.grid c.requires.from c.requires.upto (λ s border. (border.after, border.upto)) (rw (same_a, same_b) at c.loop-column.invariant))

pub nearer_border-nearest-requires-clause-second : goal.nearer_border-nearest-requires-clause-second
nearer_border-nearest-requires-clause-second c =
    let same_a : to_z w64 (of_z w64 c.args.a) ≡ c.args.a = to_z-of_z w64 c.args.a c.ranges.a in
    let same_b : to_z w64 (of_z w64 c.args.b) ≡ c.args.b = to_z-of_z w64 c.args.b c.ranges.b in
    rw (same_a, same_b)
    (short (IsGridBorder c.grid.result c.args.a c.args.b) c.args.self.now _ c.grid.result c.args.a c.args.b
    c.border_near-own.result c.grid.ensures.grid c.requires.from c.requires.upto (λ s border. (border.border.after, border.border.upto)) (rw (same_a, same_b) at c.border_near-own.ensures))

pub loop-column-preserved : goal.loop-column-preserved
loop-column-preserved c =
    let own = nearest_of_grid c.args.self.now _ c.grid.result c.header-header.ensures.checked (c.requires.present c.loop-column.column-index 0 c.loop-column-test.true) c.grid.ensures.grid
    _ _ c.border_near-own.result c.border_near-own.ensures in
    rw c.nearer_border-nearest.ensures
    (one_more c.args.self.now c.args.columns.now c.loop-column.column-index _ _ c.loop-column.nearest c.border_near-own.result
    c.loop-column-test.true c.loop-column.invariant own)

pub border_near-own-requires-clause-upto : goal.border_near-own-requires-clause-upto
border_near-own-requires-clause-upto c =
    let last = ends c.args.self.now _ c.grid.result c.grid.ensures.grid in
    rw (← last) (omega (arith, ints, c.requires.upto))

pub returns : goal.returns
returns c =
    let e : Ephemeris = c.args.self.now in
    let columns : List ℕ = c.args.columns.now in
    let same_a : to_z w64 (of_z w64 c.args.a) ≡ c.args.a = to_z-of_z w64 c.args.a c.ranges.a in
    let same_b : to_z w64 (of_z w64 c.args.b) ≡ c.args.b = to_z-of_z w64 c.args.b c.ranges.b in
    let all : take c.loop-column.column-index columns ≡ columns = take_all c.loop-column.column-index columns c.loop-column-test.false in
    nearest_once (IsBorderIn e columns c.args.a c.args.b) c.args.a c.args.b _ _
    (rw (same_a, same_b, all) at c.loop-column.invariant) (nearest_of_all e columns c.args.a c.args.b c.header-header.ensures.checked c.requires.present)
