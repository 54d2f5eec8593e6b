use Rattle.still_spans.proofs.halves.Walk.+add_spans_by_signs.Given as goal

abbrev pub decreases-add_spans_by_signs : goal.decreases-add_spans_by_signs
decreases-add_spans_by_signs l = l.depth
