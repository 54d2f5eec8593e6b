use Rattle.std.proofs.Common.{◌≡◌, ◌+◌, ◌-◌, ◌*◌, ◌≤◌, arith, ap}
use Rattle.spec_ephemeris.specs.Header.{granule_size}
use Rattle.spec_ephemeris.proofs.GranuleNumbers.{run_fits}
use Rattle.eph_model.proofs.granules.granule_place.Goals as goal
use Rattle.eph_model.proofs.granules.granule_place.Goals.{After-component_count}

size_is : (c : After-component_count) → c.component_count.result * c.args.column.coefs ≡ granule_size c.args.number c.args.column
size_is c = ap (λ n. n * c.args.column.coefs) c.component_count.ensures.value

within : (c : After-component_count) → c.args.column.start - 1 + c.args.inner * (c.component_count.result * c.args.column.coefs) + c.component_count.result * c.args.column.coefs ≤ c.args.header.now.ncoeff
within c = rw (size_is c) (run_fits c.args.header.now c.args.number c.args.column c.args.inner c.requires.header c.requires.present c.requires.inner)

pub overflow_sub-first : goal.overflow_sub-first
overflow_sub-first c = let own = c.requires.header.columns c.args.number c.args.column c.requires.present in omega (arith, own.start)

pub overflow_mul-first : goal.overflow_mul-first
overflow_mul-first c = let most = c.requires.header.most in omega (arith, within (goal.at.overflow_mul-first c).After-component_count, most)

pub overflow_add-first : goal.overflow_add-first
overflow_add-first c = let most = c.requires.header.most in omega (arith, within (goal.at.overflow_add-first c).After-component_count, most)

pub returns-clause-within : goal.returns-clause-within
returns-clause-within c = within (goal.at.returns-clause-within c).After-component_count
