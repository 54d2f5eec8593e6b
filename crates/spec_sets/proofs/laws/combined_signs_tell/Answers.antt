use Rattle.std.proofs.Common.{◌≡◌, true}
use Rattle.spec_sets.proofs.Telling.{opposite_tells, either_tells, both_tells}
use Rattle.spec_sets.proofs.laws.combined_signs_tell.Goals as goal

pub returns-clause-opposite : goal.returns-clause-opposite
returns-clause-opposite c = λ x a. opposite_tells x (a ≡ true)

pub returns-clause-either : goal.returns-clause-either
returns-clause-either c = λ x y a b. either_tells x y (a ≡ true) (b ≡ true)

pub returns-clause-both : goal.returns-clause-both
returns-clause-both c = λ x y a b. both_tells x y (a ≡ true) (b ≡ true)
