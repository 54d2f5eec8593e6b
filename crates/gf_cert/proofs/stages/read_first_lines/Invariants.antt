use Rattle.std.proofs.Common.{◌≡◌}
use Rattle.spec_searches.specs.Found.{rules}
use Rattle.gf_cert.specs.Steps.{AreValid, coming}
use Rattle.gf_cert.proofs.stages.read_first_lines.Given as goal

abbrev pub invariant-loop : goal.invariant-loop
invariant-loop g l = record {
  waiting : AreValid (rules l.judge.search) l.waiting.items;
  same : coming l.judge.search l.initial.found.items l.initial.waiting.items l.initial.lines ≡ coming l.judge.search l.found.items l.waiting.items l.lines;
}
