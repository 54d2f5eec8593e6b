use Rattle.std.proofs.Common.{◌∙◌, sym}
use Rattle.spec_intervals.specs.Interval.{sum}
use Rattle.spec_intervals.specs.Enclosure.{sum_of}
use Rattle.event_expr.proofs.Steps.{sum-owes}
use Rattle.event_expr.proofs.rules.TimeSpan.sum.Goals as goal

pub wide-requires : goal.wide-requires
wide-requires c = rw (c.add.ensures.equals, c.add-mid.ensures.equals, c.add-then-has_several.ensures.equals) (sum-owes c.args.self.now.first c.args.self.now.last (sym c.has_several.ensures ∙ c.if-has_several.true) c.args.x c.args.y c.requires.x_within c.requires.y_within c.requires.x_encloses c.requires.y_encloses)

pub returns-else-has_several : goal.returns-else-has_several
unfolding sum_of
returns-else-has_several c = rw c.add-mid.ensures.equals at (c.single.ensures (sum c.args.x.range c.args.y.range) (sum c.args.x.step c.args.y.step))
