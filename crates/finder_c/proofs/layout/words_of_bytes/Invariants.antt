use Rattle.std.proofs.Common.{length, string_bytes}
use Rattle.finder_c.specs.Layout.{BeginWithText}
use Rattle.finder_c.proofs.Reading.{AreRead}
use Rattle.finder_c.proofs.layout.words_of_bytes.Given as goal

abbrev pub invariant-loop-rest : goal.invariant-loop-rest
invariant-loop-rest l = AreRead BeginWithText string_bytes l.bytes l.words.items l.rest

abbrev pub decreases-loop-rest : goal.decreases-loop-rest
decreases-loop-rest l = length l.rest
