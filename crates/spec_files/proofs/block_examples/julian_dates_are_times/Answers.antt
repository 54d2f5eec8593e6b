use Rattle.std.proofs.Common.{refl}
use Rattle.spec_files.proofs.block_examples.julian_dates_are_times.Goals as goal

pub returns-clause-noon : goal.returns-clause-noon
returns-clause-noon c = refl

pub returns-clause-midnight : goal.returns-clause-midnight
returns-clause-midnight c = refl

pub returns-clause-first : goal.returns-clause-first
returns-clause-first c = refl

pub returns-clause-last : goal.returns-clause-last
returns-clause-last c = refl

pub returns-clause-too_late : goal.returns-clause-too_late
returns-clause-too_late c = refl

pub returns-clause-too_early : goal.returns-clause-too_early
returns-clause-too_early c = refl

pub returns-clause-part : goal.returns-clause-part
returns-clause-part c = refl
