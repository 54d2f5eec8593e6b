use Rattle.std.proofs.Common.{◌≡◌, length}
use Rattle.spec_searches.specs.Found.{rules}
use Rattle.gf_cert.specs.Steps.{AreValid, coming}
use Rattle.gf_cert.proofs.leaves.read_to_end.Given as goal

abbrev pub invariant-loop-ended : goal.invariant-loop-ended
invariant-loop-ended g l = record {
  waiting : AreValid (rules l.judge.search) l.waiting.items;
  same : coming l.judge.search l.initial.found.items l.initial.waiting.items l.initial.lines ≡ coming l.judge.search l.found.items l.waiting.items l.lines;
}

abbrev pub decreases-loop-ended : goal.decreases-loop-ended
decreases-loop-ended g l = length l.lines.left
