use Rattle.still_spans.proofs.joining.Joined.add_spans.Goals as goal

pub loop-span-preserved : goal.loop-span-preserved
loop-span-preserved c = record {
  still = λ s share all. c.in_ok-add_span.ensures.still s (share c.loop-span.span-index _ c.loop-span-test.true) (c.loop-span.invariant.still s share all);
  joined = λ from joined. c.in_ok-add_span.ensures.joined from (c.loop-span.invariant.joined from joined);
}
