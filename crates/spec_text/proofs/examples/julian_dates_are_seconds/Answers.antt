use Rattle.std.proofs.Common.{refl}
use Rattle.spec_text.proofs.examples.julian_dates_are_seconds.Goals as goal

pub returns-clause-day : goal.returns-clause-day
returns-clause-day c = refl

pub returns-clause-last : goal.returns-clause-last
returns-clause-last c = refl

pub returns-clause-half : goal.returns-clause-half
returns-clause-half c = refl

pub returns-clause-too_late : goal.returns-clause-too_late
returns-clause-too_late c = refl

pub returns-clause-too_early : goal.returns-clause-too_early
returns-clause-too_early c = refl

pub returns-clause-both : goal.returns-clause-both
returns-clause-both c = refl

pub returns-clause-no_sign : goal.returns-clause-no_sign
returns-clause-no_sign c = refl
