use Rattle.std.proofs.Common.{◌≡◌, ℕ, ◌+◌, ◌-◌, ◌*◌, ◌<◌, ◌≤◌, take, drop, All, List, arith, subst, ◌∙◌}
use Rattle.spec_numbers.proofs.Naturals.{row_fits}
use Rattle.spec_text.specs.declared.decimals.Decimal.{Decimal}
use Rattle.spec_ephemeris.specs.declared.granule.Rounded.{Rounded}
use Rattle.spec_ephemeris.specs.declared.limits.TheConstants.{BODY_COLUMNS}
use Rattle.spec_ephemeris.specs.Header.{granule_size}
use Rattle.spec_ephemeris.specs.Ephemeris.{Ephemeris, IsEphemeris, IsBodyNumber, block_numbers, granule_numbers}
use Rattle.spec_ephemeris.proofs.GranuleNumbers.{numbers_bounded}
use Rattle.spec_ephemeris.proofs.Rounding.{pairs_of_body}
use Rattle.eph_model.specs.Pairs.{ArePairs}
use Rattle.eph_model.proofs.PairLists.{pairs_length, pairs_within, pairs_are}
use Rattle.eph_model.proofs.ephemeris.Ephemeris.granule_pairs.Goals as goal

pub block_values_at-requires-clause-block : goal.block_values_at-requires-clause-block
block_values_at-requires-clause-block c =
    let inside = c.self.inside in
    let within : c.args.block < inside.blocks = rw (← c.self.view_is) at c.requires.block in
    let fits = row_fits c.args.block inside.blocks inside.header.ncoeff within in
    let lengths = pairs_length inside.numbers.items inside.pairs.items c.self.invariant.1 in
    let whole = c.self.invariant.0.whole in
    rw c.deref-2.ensures.value (omega (arith, fits, lengths, whole))

pub returns : goal.returns
returns c =
    let e : Ephemeris = c.args.self.now in
    let inside = c.self.inside in
    let n : ℕ = inside.header.ncoeff in
    let size : ℕ = granule_size c.args.number c.args.column in
    let first : ℕ = c.args.column.start - 1 + c.args.inner * size in
    let numbers : List Decimal = granule_numbers c.args.number c.args.column c.args.inner (block_numbers e c.args.block) in
    let pairs : List Rounded = take size (drop first (take n (drop (c.args.block * n) inside.pairs.items))) in
    let Beside : Ephemeris → Type 0 = λ x. ArePairs (granule_numbers c.args.number c.args.column c.args.inner (block_numbers x c.args.block)) pairs in
    let beside : ArePairs numbers pairs = subst Beside c.self.view_is (pairs_within inside.numbers.items inside.pairs.items (c.args.block * n) n first size c.self.invariant.1) in
    let checked : IsEphemeris e = rw c.self.view_is at c.self.invariant.0 in
    let body : c.args.number ≤ BODY_COLUMNS = c.if-number-gt-BODY_COLUMNS.false in
    let bodies : All IsBodyNumber numbers = numbers_bounded e c.args.number c.args.column c.args.block c.args.inner checked c.requires.present c.requires.block c.requires.inner body in
    let own : c.block_values_at.result.now ≡ pairs =
    c.block_values_at.ensures
    ∙ (λ i. take (c.granule_place-first.ensures.size i) (drop (c.granule_place-first.ensures.first i) (take n (drop (c.args.block * n) (c.deref-2.ensures.value i)))))
    in
    own ∙ (pairs_are numbers pairs beside bodies ∙ pairs_of_body c.args.number numbers body)
