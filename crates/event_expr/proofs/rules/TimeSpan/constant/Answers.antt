use Rattle.std.proofs.Common.{◌∙◌, sym}
use Rattle.spec_intervals.specs.Enclosure.{constant_of}
use Rattle.spec_expressions.specs.Term.{part_exponent}
use Rattle.event_expr.proofs.Constants.{constant-wide}
use Rattle.event_expr.proofs.rules.TimeSpan.constant.Goals as goal

pub returns-then-has_several : goal.returns-then-has_several
returns-then-has_several c =
    constant-wide c.args.self.now.first c.args.self.now.last (sym c.has_several.ensures ∙ c.if-has_several.true) part_exponent c.args.value c.zero-zero.result c.add.result c.requires.within c.zero-zero.ensures c.add.ensures.equals

pub returns-else-has_several : goal.returns-else-has_several
unfolding constant_of
returns-else-has_several c = c.single.ensures _ _
