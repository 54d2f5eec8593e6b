use Rattle.std.proofs.Common.{drop}
use Rattle.gf_sets.specs.Complements.{IsLeftOut}
use Rattle.gf_sets.proofs.spans.Spans.complement.Given as goal

abbrev pub invariant-loop-first : goal.invariant-loop-first
invariant-loop-first l = IsLeftOut l.spans (drop l.first-index l.spans) l.from l.to l.next l.out
