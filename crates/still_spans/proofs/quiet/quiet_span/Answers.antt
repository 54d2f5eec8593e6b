use Rattle.std.proofs.Common.{◌∙◌, ap, sym, refl, w64}
use Rattle.std.proofs.lemmas.Int.{to_z-of_z}
use Rattle.spec_intervals.specs.declared.signs.Sign.TheVariants.{Yes, No}
use Rattle.spec_intervals.specs.Signs.{sign_of}
use Rattle.still_spans.proofs.Quieted.{still_whole}
use Rattle.still_spans.proofs.quiet.quiet_span.Goals as goal

pub span_for_any_width-requires : goal.span_for_any_width-requires
span_for_any_width-requires c = record {
  still = λ widest. rw (to_z-of_z w64 c.args.a c.ranges.a, to_z-of_z w64 c.args.b c.ranges.b) (still_whole c.args.search.now c.args.a c.args.b c.is_search.ensures c.requires.fits c.requires.several Yes (ap sign_of (sym c.requires.bound.range) ∙ (sym c.sign.ensures ∙ c.in-Yes.is)) refl c.quiet_spans_are_clear.ensures.times c.quiet_spans_are_clear.ensures.nodes widest);
}

pub span_for_any_width-requires-in-No : goal.span_for_any_width-requires-in-No
span_for_any_width-requires-in-No c = record {
  still = λ widest. rw (to_z-of_z w64 c.args.a c.ranges.a, to_z-of_z w64 c.args.b c.ranges.b) (still_whole c.args.search.now c.args.a c.args.b c.is_search.ensures c.requires.fits c.requires.several No (ap sign_of (sym c.requires.bound.range) ∙ (sym c.sign.ensures ∙ c.in-No.is)) refl c.quiet_spans_are_clear.ensures.times c.quiet_spans_are_clear.ensures.nodes widest);
}
