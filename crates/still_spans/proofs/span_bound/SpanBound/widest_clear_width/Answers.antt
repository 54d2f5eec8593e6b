use Rattle.std.proofs.Common.{◌∙◌, arith, sym}
use Rattle.span_models.specs.Margins.{margin_of}
use Rattle.still_spans.specs.Found.{still}
use Rattle.still_spans.specs.Knowledge.{side}
use Rattle.still_spans.proofs.SpanBounds.{monotone_by, side_is_known}
use Rattle.still_spans.proofs.span_bound.SpanBound.widest_clear_width.Goals as goal

pub returns-then-is_monotone : goal.returns-then-is_monotone
returns-then-is_monotone c = λ k.
    let s = c.args.search.now in
    let x = c.args.self.now in
    let is = c.requires.bounded.bounded in
    let units =
    c.margins_make_spans_still.ensures.units s (still c.args.a c.args.b 1 k (side c.args.margin)) (margin_of c.args.margin)
    x.first x.last is.search is.fits c.requires.bounded.within.from c.requires.bounded.within.upto c.requires.margin c.requires.sign (omega arith) in
    c.monotone_spans_are_still.ensures s (still c.args.a c.args.b _ k (side c.args.margin)) x.first x.last is.search
    (monotone_by s x is (sym c.is_monotone.ensures ∙ c.if-is_monotone.true)) c.requires.bounded.within.from c.requires.bounded.within.upto (side_is_known c.args.margin) units.signs

pub returns-in-Some : goal.returns-in-Some
returns-in-Some c = λ k.
    c.margins_make_spans_still.ensures.steps c.args.search.now (still c.args.a c.args.b c.in-Some.few k (side c.args.margin)) (margin_of c.args.margin)
    c.args.self.now.first c.args.self.now.last c.requires.bounded.bounded.search c.requires.bounded.bounded.fits c.requires.bounded.within.from c.requires.bounded.within.several c.requires.bounded.within.upto
    c.requires.margin c.requires.sign c.in-Some.ensures

pub returns-in-None : goal.returns-in-None
returns-in-None c = λ k.
    c.margins_make_spans_still.ensures.units c.args.search.now (still c.args.a c.args.b 1 k (side c.args.margin)) (margin_of c.args.margin)
    c.args.self.now.first c.args.self.now.last c.requires.bounded.bounded.search c.requires.bounded.bounded.fits c.requires.bounded.within.from c.requires.bounded.within.upto c.requires.margin c.requires.sign (omega arith)
