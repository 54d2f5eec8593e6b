use Rattle.spec_meanings.proofs.Signs.{not_negative, negative, nought}
use Rattle.spec_meanings.proofs.laws.ratios_have_signs.Goals as goal

pub returns-clause-not_negative : goal.returns-clause-not_negative
returns-clause-not_negative c = λ r n d p. not_negative p

pub returns-clause-negative : goal.returns-clause-negative
returns-clause-negative c = λ r n d p. negative p

pub returns-clause-nought : goal.returns-clause-nought
returns-clause-nought c = λ r n d p. nought p
