use Rattle.std.proofs.Common.{◌<◌, refl, arith}
use Rattle.spec_files.proofs.file_examples.a_run_has_up_to_64_files.Goals as goal

pub returns-clause-most : goal.returns-clause-most
returns-clause-most c = λ file fault are. let many : 64 < 64 = are.many in omega (arith, many)

pub returns-clause-too_many : goal.returns-clause-too_many
returns-clause-too_many c = record { many = omega arith; first = refl; same = refl }
