use Rattle.std.proofs.Common.{refl}
use Rattle.spec_files.specs.HeaderLines.{header}
use Rattle.spec_files.proofs.header_examples.the_constants_are_refused.Goals as goal

pub returns-clause-many_names : goal.returns-clause-many_names
unfolding header
returns-clause-many_names c = refl

pub returns-clause-no_emrat : goal.returns-clause-no_emrat
unfolding header
returns-clause-no_emrat c = refl

pub returns-clause-more_values : goal.returns-clause-more_values
unfolding header
returns-clause-more_values c = refl

pub returns-clause-bad_value : goal.returns-clause-bad_value
unfolding header
returns-clause-bad_value c = refl

pub returns-clause-small_ratio : goal.returns-clause-small_ratio
unfolding header
returns-clause-small_ratio c = refl
