use Rattle.std.proofs.Common.{refl}
use Rattle.spec_times.specs.TimeWords.{time_of}
use Rattle.spec_times.proofs.examples.whole_numbers_are_times.Goals as goal

pub returns-clause-minus : goal.returns-clause-minus
unfolding time_of
returns-clause-minus c = refl

pub returns-clause-zeros : goal.returns-clause-zeros
unfolding time_of
returns-clause-zeros c = refl

pub returns-clause-first : goal.returns-clause-first
unfolding time_of
returns-clause-first c = refl

pub returns-clause-too_late : goal.returns-clause-too_late
unfolding time_of
returns-clause-too_late c = refl

pub returns-clause-plus : goal.returns-clause-plus
unfolding time_of
returns-clause-plus c = refl

pub returns-clause-too_long : goal.returns-clause-too_long
unfolding time_of
returns-clause-too_long c = refl
