use Rattle.gf_cert.proofs.Fitting.{accepted, is_short}
use Rattle.gf_cert.proofs.laws.certificates_of_searches_are_accepted.Goals as goal

pub returns-clause-accepted : goal.returns-clause-accepted
returns-clause-accepted c = λ s root request is few valid line fewer. accepted s is few root valid request fewer line

pub returns-clause-short : goal.returns-clause-short
returns-clause-short c = λ s root request is few valid line fewer. is_short s is few root valid request fewer line
