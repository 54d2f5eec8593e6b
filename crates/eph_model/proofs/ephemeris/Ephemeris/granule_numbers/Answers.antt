use Rattle.std.proofs.Common.{rules, ◌≡◌}
use Rattle.spec_ephemeris.specs.Ephemeris.{IsEphemeris, block_numbers, granule_numbers}
use Rattle.spec_ephemeris.proofs.GranuleNumbers.{numbers_count, numbers_bounded}
use Rattle.eph_model.proofs.ephemeris.Ephemeris.granule_numbers.Goals as goal

pub returns-clause-count : goal.returns-clause-count
returns-clause-count c =
    let checked : IsEphemeris c.args.self.now = rw c.self.view_is at c.self.invariant.0 in
    let numbers : c.block_values_at.result.now ≡ granule_numbers c.args.number c.args.column c.args.inner (block_numbers c.args.self.now c.args.block) = search rules in
    rw numbers (numbers_count c.args.self.now c.args.number c.args.column c.args.block c.args.inner checked c.requires.present c.requires.block c.requires.inner)

pub returns-clause-bodies : goal.returns-clause-bodies
returns-clause-bodies c = λ body.
    let checked : IsEphemeris c.args.self.now = rw c.self.view_is at c.self.invariant.0 in
    let numbers : c.block_values_at.result.now ≡ granule_numbers c.args.number c.args.column c.args.inner (block_numbers c.args.self.now c.args.block) = search rules in
    rw numbers (numbers_bounded c.args.self.now c.args.number c.args.column c.args.block c.args.inner checked c.requires.present c.requires.block c.requires.inner body)
