use Rattle.std.proofs.Common.{arith}
use Rattle.spec_searches.specs.Found.{root}
use Rattle.spec_outcomes.specs.Certificates.{line_over}
use Rattle.spec_outcomes.specs.Queries.{query_of, search, span_of}
use Rattle.gf_check.proofs.Accepting.{accepted_is}
use Rattle.gf_check.proofs.laws.what_is_certified_is_verified.Goals as goal

pub returns : goal.returns
returns c = λ find e text checked block limits is.
    let span = span_of find e in
    let s = search (query_of find) e in
    let top = root span.from span.upto in
    let line = c.the_line_of_a_request_is_a_line.ensures find span.from span.upto limits in
    let deep = limits.depth in
    let law = c.certificates_of_searches_are_accepted.ensures in
    accepted_is find e checked block limits text is
    (λ searches valid few. law.accepted s top (line_over find span) searches (omega (arith, deep)) valid line few)
    (λ searches valid few. law.short s top (line_over find span) searches (omega (arith, deep)) valid line.short few)
