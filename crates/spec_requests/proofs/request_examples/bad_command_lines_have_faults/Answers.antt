use Rattle.std.proofs.Common.{refl}
use Rattle.spec_requests.proofs.OnLiterals.{requests_on_literals}
use Rattle.spec_requests.proofs.request_examples.bad_command_lines_have_faults.Goals as goal

pub returns : goal.returns
unfolding requests_on_literals
returns c = record { no_word = refl; other = refl; no_file = refl; blocks = refl }
