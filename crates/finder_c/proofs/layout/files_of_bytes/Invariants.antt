use Rattle.std.proofs.Common.{length}
use Rattle.finder_c.specs.Layout.{BeginWithFile, entry}
use Rattle.finder_c.proofs.Reading.{AreRead}
use Rattle.finder_c.proofs.layout.files_of_bytes.Given as goal

abbrev pub invariant-loop-rest : goal.invariant-loop-rest
invariant-loop-rest l = AreRead BeginWithFile entry l.bytes l.files.items l.rest

abbrev pub decreases-loop-rest : goal.decreases-loop-rest
decreases-loop-rest l = length l.rest
