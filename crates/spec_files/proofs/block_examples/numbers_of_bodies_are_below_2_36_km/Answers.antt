use Rattle.std.proofs.Common.{refl}
use Rattle.spec_files.proofs.block_examples.numbers_of_bodies_are_below_2_36_km.Goals as goal

pub returns-clause-date : goal.returns-clause-date
returns-clause-date c = refl

pub returns-clause-mercury : goal.returns-clause-mercury
returns-clause-mercury c = refl

pub returns-clause-sun : goal.returns-clause-sun
returns-clause-sun c = refl

pub returns-clause-after : goal.returns-clause-after
returns-clause-after c = refl

pub returns-clause-least_size : goal.returns-clause-least_size
returns-clause-least_size c = refl

pub returns-clause-greatest_size : goal.returns-clause-greatest_size
returns-clause-greatest_size c = refl

pub returns-clause-below_zero : goal.returns-clause-below_zero
returns-clause-below_zero c = refl
