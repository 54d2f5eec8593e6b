use Rattle.std.proofs.Common.{◌∙◌, sym}
use Rattle.spec_intervals.specs.Interval.{product, signed_square}
use Rattle.spec_intervals.specs.Enclosure.{signed_square_of, twice_size}
use Rattle.event_expr.proofs.Steps.{signed_square-wide, square_step-wide, twice_size-exponent, shared-signed_square}
use Rattle.event_expr.proofs.rules.TimeSpan.signed_square.Goals as goal

pub mul-step-requires-clause-exponent : goal.mul-step-requires-clause-exponent
mul-step-requires-clause-exponent c = rw c.twice_size.ensures (twice_size-exponent c.args.x.range c.requires.within.range)

pub wide-requires-clause-mid_within : goal.wide-requires-clause-mid_within
wide-requires-clause-mid_within c = rw c.signed_square-mid.ensures.equals (signed_square-wide c.args.x.mid c.requires.within.mid)

pub wide-requires-clause-plain_within : goal.wide-requires-clause-plain_within
wide-requires-clause-plain_within c = rw c.signed_square.ensures.equals (signed_square-wide c.args.x.range c.requires.within.range)

pub wide-requires-clause-step_within : goal.wide-requires-clause-step_within
wide-requires-clause-step_within c =
    rw (c.mul-step.ensures.equals, c.twice_size.ensures) (square_step-wide c.args.x.range c.args.x.step c.requires.within.range c.requires.within.step)

pub wide-requires-clause-shared : goal.wide-requires-clause-shared
wide-requires-clause-shared c =
    rw (c.signed_square.ensures.equals, c.signed_square-mid.ensures.equals, c.mul-step.ensures.equals, c.twice_size.ensures) (shared-signed_square c.args.self.now.first c.args.self.now.last (sym c.has_several.ensures ∙ c.if-has_several.true) c.args.x c.requires.encloses)

pub returns-then-has_several : goal.returns-then-has_several
unfolding signed_square_of
returns-then-has_several c = rw (c.signed_square.ensures.equals, c.signed_square-mid.ensures.equals, c.mul-step.ensures.equals, c.twice_size.ensures) at c.wide.ensures

pub returns-else-has_several : goal.returns-else-has_several
unfolding signed_square_of
returns-else-has_several c = rw c.signed_square-mid.ensures.equals at (c.single.ensures (signed_square c.args.x.range) (product (twice_size c.args.x.range) c.args.x.step))
