use Rattle.std.proofs.Common.{w64}
use Rattle.std.proofs.lemmas.Int.{to_z-of_z}
use Rattle.still_spans.proofs.SpanBounds.{times_fit}
use Rattle.still_spans.proofs.span_bound.SpanBound.still_span_by_margin.Goals as goal

pub useful_span-requires : goal.useful_span-requires
useful_span-requires c = record { still = λ k. rw c.side_sign.ensures (c.widest_clear_width-widest.ensures k) }

pub useful_span-requires-2 : goal.useful_span-requires-2
useful_span-requires-2 c = record { still = λ k. rw c.side_sign-2.ensures (c.widest_clear_width-wider.ensures k) }

pub bound_between-own-requires-clause-fits : goal.bound_between-own-requires-clause-fits
bound_between-own-requires-clause-fits c =
    rw (to_z-of_z w64 c.args.a c.ranges.a, to_z-of_z w64 c.args.b c.ranges.b)
    (times_fit c.args.search.now c.args.self.now c.args.a c.args.b c.requires.bounded)
