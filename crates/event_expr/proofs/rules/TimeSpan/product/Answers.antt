use Rattle.spec_intervals.specs.Interval.{sum, product}
use Rattle.std.proofs.Common.{◌∙◌, sym}
use Rattle.spec_intervals.specs.Enclosure.{product_of}
use Rattle.event_expr.proofs.Steps.{product-wide, product-part, product-exponent, sums-wide, shared-product}
use Rattle.event_expr.proofs.rules.TimeSpan.product.Goals as goal

pub add-step-requires-clause-exponent : goal.add-step-requires-clause-exponent
add-step-requires-clause-exponent c = rw c.mul.ensures.equals (product-exponent c.args.x.range c.args.y.step c.requires.x_within.range c.requires.y_within.step)

pub add-step-requires-clause-other_exponent : goal.add-step-requires-clause-other_exponent
add-step-requires-clause-other_exponent c = rw c.mul-then-has_several.ensures.equals (product-exponent c.args.y.range c.args.x.step c.requires.y_within.range c.requires.x_within.step)

pub wide-requires-clause-mid_within : goal.wide-requires-clause-mid_within
wide-requires-clause-mid_within c = rw c.mul-mid.ensures.equals (product-wide c.args.x.mid c.args.y.mid c.requires.x_within.mid c.requires.y_within.mid)

pub wide-requires-clause-plain_within : goal.wide-requires-clause-plain_within
wide-requires-clause-plain_within c = rw c.mul-then-has_several-2.ensures.equals (product-wide c.args.x.range c.args.y.range c.requires.x_within.range c.requires.y_within.range)

pub wide-requires-clause-step_within : goal.wide-requires-clause-step_within
wide-requires-clause-step_within c =
    rw (c.add-step.ensures.equals, c.mul.ensures.equals, c.mul-then-has_several.ensures.equals) (sums-wide _ _ (product-part c.args.x.range c.args.y.step c.requires.x_within.range c.requires.y_within.step) (product-part c.args.y.range c.args.x.step c.requires.y_within.range c.requires.x_within.step))

pub wide-requires-clause-shared : goal.wide-requires-clause-shared
wide-requires-clause-shared c =
    rw (c.mul-then-has_several-2.ensures.equals, c.mul-mid.ensures.equals, c.add-step.ensures.equals, c.mul.ensures.equals, c.mul-then-has_several.ensures.equals) (shared-product c.args.self.now.first c.args.self.now.last (sym c.has_several.ensures ∙ c.if-has_several.true) c.args.x c.args.y c.requires.x_encloses c.requires.y_encloses)

pub returns-then-has_several : goal.returns-then-has_several
unfolding product_of
returns-then-has_several c = rw (c.mul-then-has_several-2.ensures.equals, c.mul-mid.ensures.equals, c.add-step.ensures.equals, c.mul.ensures.equals, c.mul-then-has_several.ensures.equals) at c.wide.ensures

pub returns-else-has_several : goal.returns-else-has_several
unfolding product_of
returns-else-has_several c = rw c.mul-mid.ensures.equals at (c.single.ensures (product c.args.x.range c.args.y.range) (sum (product c.args.x.range c.args.y.step) (product c.args.y.range c.args.x.step)))
