use Rattle.std.proofs.Common.{◌∙◌, ap, subst, sym}
use Rattle.spec_events.specs.Verdict.{is_known}
use Rattle.spec_searches.specs.Search.{Search, criteria}
use Rattle.spec_bounds.specs.Steady.{steady_verdict}
use Rattle.event_judge.specs.Plain.{IsByKnownEnds}
use Rattle.event_judge.proofs.memory.Memory.verdict_by_known_ends.Goals as goal

pub returns-then-is_known-2 : goal.returns-then-is_known-2
returns-then-is_known-2 g c =
    let n = c.args.node in
    let s = n.search.now in
    let ends = c.end_signs-first.ensures in
    let by : IsByKnownEnds s n.node c.steady_verdict.result = record {
      first = ap is_known (sym ends.first) ∙ (sym c.is_known.ensures ∙ c.if-is_known.true);
      last = ap is_known (sym ends.last) ∙ (sym c.is_known-then-is_known.ensures ∙ c.if-is_known-2.true);
      told = c.steady_verdict.ensures ∙ λ i. steady_verdict (criteria s) n.node (ends.first i) (ends.last i);
    } in
    subst (λ (s : Search). IsByKnownEnds s n.node c.steady_verdict.result) c.requires.named by
