use Rattle.spec_files.proofs.AcceptedHeaders.{accepted_length}
use Rattle.spec_files.proofs.header_laws.accepted_headers_count_seconds.Goals as goal

pub returns : goal.returns
returns c = λ lines h rest is. accepted_length lines h rest is
