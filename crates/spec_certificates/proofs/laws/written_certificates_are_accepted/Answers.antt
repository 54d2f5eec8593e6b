use Rattle.spec_certificates.proofs.Written.{written}
use Rattle.spec_certificates.proofs.laws.written_certificates_are_accepted.Goals as goal

pub returns : goal.returns
returns c = λ c root request is valid line fit few. written c is root valid request line fit few
