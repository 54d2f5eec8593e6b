use Rattle.spec_files.proofs.AcceptedHeaders.{accepted_header}
use Rattle.spec_files.proofs.header_laws.accepted_headers_meet_the_rules.Goals as goal

pub returns : goal.returns
returns c = λ lines h rest is. accepted_header lines h rest is
