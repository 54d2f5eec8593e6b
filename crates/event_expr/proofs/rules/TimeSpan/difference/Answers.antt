use Rattle.std.proofs.Common.{◌∙◌, sym}
use Rattle.spec_intervals.specs.Interval.{difference}
use Rattle.spec_intervals.specs.Enclosure.{difference_of}
use Rattle.event_expr.proofs.Steps.{difference-owes}
use Rattle.event_expr.proofs.rules.TimeSpan.difference.Goals as goal

pub wide-requires : goal.wide-requires
wide-requires c = rw (c.sub.ensures.equals, c.sub-mid.ensures.equals, c.sub-then-has_several.ensures.equals) (difference-owes c.args.self.now.first c.args.self.now.last (sym c.has_several.ensures ∙ c.if-has_several.true) c.args.x c.args.y c.requires.x_within c.requires.y_within c.requires.x_encloses c.requires.y_encloses)

pub returns-else-has_several : goal.returns-else-has_several
unfolding difference_of
returns-else-has_several c = rw c.sub-mid.ensures.equals at (c.single.ensures (difference c.args.x.range c.args.y.range) (difference c.args.x.step c.args.y.step))
