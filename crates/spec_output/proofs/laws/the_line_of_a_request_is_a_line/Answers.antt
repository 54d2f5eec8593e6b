use Rattle.spec_output.proofs.RequestLines.{request_is_line}
use Rattle.spec_output.proofs.laws.the_line_of_a_request_is_a_line.Goals as goal

pub returns : goal.returns
returns c = λ find from to is. request_is_line find is from to
