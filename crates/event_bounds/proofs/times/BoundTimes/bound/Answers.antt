use Rattle.std.proofs.Common.{refl, sym}
use Rattle.spec_models.specs.Bounds.{bound}
use Rattle.event_expr.specs.States.{wide_exponent}
use Rattle.event_bounds.proofs.Fine.{kept_range}
use Rattle.event_bounds.proofs.Rules.{span_of}
use Rattle.event_bounds.proofs.times.BoundTimes.bound.Goals as goal

pub returns-then-keeps_unit : goal.returns-then-keeps_unit
unfolding bound
returns-then-keeps_unit c =
    let t = c.args.self.now in
    let fine = c.keeps_unit.ensures c.if-keeps_unit.true in
    record {
      range = sym (kept_range wide_exponent t.span.now.first t.span.now.last (span_of t) c.args.range c.args.step c.requires.range c.requires.step fine);
      step = refl;
    }
