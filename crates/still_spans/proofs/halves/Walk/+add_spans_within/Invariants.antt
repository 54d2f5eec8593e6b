use Rattle.still_spans.proofs.halves.Walk.+add_spans_within.Given as goal

abbrev pub decreases-add_spans_within : goal.decreases-add_spans_within
decreases-add_spans_within l = l.depth
