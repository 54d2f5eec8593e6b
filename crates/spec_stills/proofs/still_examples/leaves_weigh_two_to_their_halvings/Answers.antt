use Rattle.std.proofs.Common.{refl}
use Rattle.spec_stills.proofs.still_examples.leaves_weigh_two_to_their_halvings.Goals as goal

pub returns-clause-early : goal.returns-clause-early
returns-clause-early c = λ s. refl

pub returns-clause-late : goal.returns-clause-late
returns-clause-late c = λ s. refl

pub returns-clause-across : goal.returns-clause-across
returns-clause-across c = λ s. refl

pub returns-clause-first : goal.returns-clause-first
returns-clause-first c = λ s. refl

pub returns-clause-three : goal.returns-clause-three
returns-clause-three c = λ s. refl

pub returns-clause-four : goal.returns-clause-four
returns-clause-four c = λ s. refl

pub returns-clause-none : goal.returns-clause-none
returns-clause-none c = λ s. refl

pub returns-clause-two : goal.returns-clause-two
returns-clause-two c = λ s. refl
