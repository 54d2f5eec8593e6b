use Rattle.std.proofs.Common.{◌∙◌, sym, w64}
use Rattle.std.proofs.lemmas.Int.{to_z-of_z}
use Rattle.still_spans.specs.Found.{still}
use Rattle.still_spans.proofs.SpanBounds.{monotone_by}
use Rattle.still_spans.proofs.span_bound.SpanBound.still_span_by_sign.Goals as goal

pub useful_span-requires : goal.useful_span-requires
useful_span-requires c = record {
  still = λ k.
      let s = c.args.search.now in
      let x = c.args.self.now in
      let is = c.requires.bounded.bounded in
      rw (to_z-of_z w64 c.args.a c.ranges.a, to_z-of_z w64 c.args.b c.ranges.b)
      (c.monotone_spans_are_still.ensures s (still c.args.a c.args.b _ k c.args.sign) x.first x.last is.search
      (monotone_by s x is (sym c.is_monotone.ensures ∙ c.if-is_monotone.true)) c.requires.bounded.within.from c.requires.bounded.within.upto
      c.requires.sign.known c.requires.sign.signs);
}
