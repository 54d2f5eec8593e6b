use Rattle.std.proofs.Common.{refl}
use Rattle.spec_times.specs.TimeWords.{time_of}
use Rattle.spec_times.proofs.examples.words_with_impossible_dates_are_refused.Goals as goal

pub returns-clause-no_leap_day : goal.returns-clause-no_leap_day
unfolding time_of
returns-clause-no_leap_day c = refl

pub returns-clause-minus_zero : goal.returns-clause-minus_zero
unfolding time_of
returns-clause-minus_zero c = refl

pub returns-clause-far : goal.returns-clause-far
unfolding time_of
returns-clause-far c = refl

pub returns-clause-hour : goal.returns-clause-hour
unfolding time_of
returns-clause-hour c = refl

pub returns-clause-few_digits : goal.returns-clause-few_digits
unfolding time_of
returns-clause-few_digits c = refl
