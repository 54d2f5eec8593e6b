use Rattle.std.proofs.Common.{refl}
use Rattle.spec_files.specs.HeaderLines.{header}
use Rattle.spec_files.specs.Outcome.{first_fault, outcome}
use Rattle.spec_files.proofs.file_examples.texts_are_refused_at_their_first_fault.Goals as goal

pub returns : goal.returns
unfolding first_fault outcome header
returns c = record { whole = refl; long = refl; read = refl; early = refl; not_yet = refl; first = refl }
