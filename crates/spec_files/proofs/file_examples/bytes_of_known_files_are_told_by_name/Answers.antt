use Rattle.std.proofs.Common.{◌≡◌, [], ap, arith, drop, length, refl}
use Rattle.std.proofs.lemmas.List.{length-drop}
use Rattle.spec_files.proofs.file_examples.bytes_of_known_files_are_told_by_name.Goals as goal

pub returns-clause-taken : goal.returns-clause-taken
returns-clause-taken c = record { count = 1; few = omega arith; rest = refl }

pub returns-clause-taken_too_far : goal.returns-clause-taken_too_far
returns-clause-taken_too_far c = λ bytes long few.
    let none : [] ≡ drop few.count bytes = cc (few.rest) in
    absurd (omega (arith, ap length none, length-drop few.count bytes, few.few, long))
