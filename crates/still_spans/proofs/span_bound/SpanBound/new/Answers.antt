use Rattle.std.proofs.Common.{w64}
use Rattle.std.proofs.lemmas.Int.{to_z-of_z}
use Rattle.still_spans.proofs.SpanBounds.{bounded_by}
use Rattle.still_spans.proofs.span_bound.SpanBound.new.Goals as goal

pub returns-clause-bounded : goal.returns-clause-bounded
returns-clause-bounded c =
    bounded_by c.args.search.now c.args.bound c.args.first c.args.last _ _ (to_z-of_z w64 c.args.first c.ranges.first) (to_z-of_z w64 c.args.last c.ranges.last)
    c.is_search.ensures c.requires.fits c.requires.several c.requires.bound
