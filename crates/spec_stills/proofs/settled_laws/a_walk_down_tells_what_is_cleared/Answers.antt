use Rattle.spec_stills.proofs.Descending.{at_clear, at_other, at_split, part_is_valid}
use Rattle.spec_stills.proofs.settled_laws.a_walk_down_tells_what_is_cleared.Goals as goal

pub returns-clause-clear : goal.returns-clause-clear
returns-clause-clear c = λ s at n is valid clear. at_clear s is at n valid clear

pub returns-clause-split : goal.returns-clause-split
returns-clause-split c = λ s at n is valid inside split. at_split s is at n valid inside split

pub returns-clause-other : goal.returns-clause-other
returns-clause-other c = λ s at n m is valid other marked. at_other s is at n valid m other marked

pub returns-clause-part : goal.returns-clause-part
returns-clause-part c = λ s at n is valid inside split. part_is_valid s is at n valid inside split
