use Rattle.std.proofs.Common.{All}
use Rattle.still_judge.specs.EndSigns.{AreCertifiedAt}
use Rattle.still_judge.proofs.certified_times.certified_times.Given as goal

abbrev pub invariant-loop-place : goal.invariant-loop-place
invariant-loop-place l = All (AreCertifiedAt l.search) l.times.items
