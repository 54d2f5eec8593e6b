use Rattle.spec_sets.proofs.Exact.{both_are, either_is, opposite_is}
use Rattle.spec_sets.proofs.laws.known_signs_combine_to_known_signs.Goals as goal

pub returns-clause-opposite : goal.returns-clause-opposite
returns-clause-opposite c = opposite_is

pub returns-clause-either : goal.returns-clause-either
returns-clause-either c = either_is

pub returns-clause-both : goal.returns-clause-both
returns-clause-both c = both_are
