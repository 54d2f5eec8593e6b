use Rattle.std.proofs.Common.{refl}
use Rattle.spec_files.specs.HeaderLines.{header}
use Rattle.spec_files.proofs.header_examples.headers_are_read_at_their_limits.Goals as goal

pub returns-clause-constants : goal.returns-clause-constants
unfolding header
returns-clause-constants c = refl

pub returns-clause-numbers : goal.returns-clause-numbers
unfolding header
returns-clause-numbers c = refl

pub returns-clause-many_numbers : goal.returns-clause-many_numbers
unfolding header
returns-clause-many_numbers c = refl

pub returns-clause-coefficients : goal.returns-clause-coefficients
unfolding header
returns-clause-coefficients c = refl

pub returns-clause-least_ratio : goal.returns-clause-least_ratio
unfolding header
returns-clause-least_ratio c = refl

pub returns-clause-greatest_ratio : goal.returns-clause-greatest_ratio
unfolding header
returns-clause-greatest_ratio c = refl

pub returns-clause-great_ratio : goal.returns-clause-great_ratio
unfolding header
returns-clause-great_ratio c = refl

pub returns-clause-line : goal.returns-clause-line
unfolding header
returns-clause-line c = refl
