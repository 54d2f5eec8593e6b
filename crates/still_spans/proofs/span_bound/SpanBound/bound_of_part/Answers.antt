use Rattle.std.proofs.Common.{w64}
use Rattle.std.proofs.lemmas.Int.{to_z-of_z}
use Rattle.still_spans.proofs.SpanBounds.{bounded_from, times_fit}
use Rattle.still_spans.proofs.span_bound.SpanBound.bound_of_part.Goals as goal

pub bound_between-requires-clause-fits : goal.bound_between-requires-clause-fits
bound_between-requires-clause-fits c =
    rw (to_z-of_z w64 c.args.a c.ranges.a, to_z-of_z w64 c.args.b c.ranges.b)
    (times_fit c.args.search.now c.args.self.now c.args.a c.args.b c.requires)

pub returns-then-not-is_monotone : goal.returns-then-not-is_monotone
returns-then-not-is_monotone c =
    bounded_from c.args.search.now c.bound_between.result c.args.a c.args.b _ _ (to_z-of_z w64 c.args.a c.ranges.a) (to_z-of_z w64 c.args.b c.ranges.b)
    c.requires.within.several c.bound_between.ensures.bounded c.bound_between.ensures.first c.bound_between.ensures.last
