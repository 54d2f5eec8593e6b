use Rattle.spec_output.proofs.Literals.{certificate_leaves_line, many_leaves_line}
use Rattle.spec_output.proofs.laws.too_many_leaves_are_reported_with_their_limit.Goals as goal

pub returns-clause-windows : goal.returns-clause-windows
returns-clause-windows c = many_leaves_line

pub returns-clause-certificate : goal.returns-clause-certificate
returns-clause-certificate c = certificate_leaves_line
